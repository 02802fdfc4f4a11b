-- Proofs of a log as bytes.
use Rattle.std.proofs.Common.{◌≡◌, ℕ, ◌*◌, ◌^◌, ◌<◌, ◌≤◌, Bool, true, false, nat_eq, List, [], ◌∷◌, length, map, Option, None, Ok, refl, ap, ◌∙◌, arith, le-ltb}
use Rattle.std.specs.Prelude.{filter}
use Rattle.std.specs.List.{AllByRecursion, list_any, range_with_len}
use Rattle.std.proofs.lemmas.Bool.{le-leb, lt-ltb, eq-eqb}
use Rattle.warg_log.specs.declared.node.Node.{Node}
use Rattle.warg_log.specs.Nodes.{ExistsAt, end_of}
use Rattle.warg_log.specs.Tree.{own_digest}
use Rattle.warg_log.specs.Claims.{InclusionClaim, ConsistencyClaim, leaf_claim}
use Rattle.warg_log.proofs.ForCallers.{existing_number, node_at}
use Rattle.warg_protobuf.specs.Decoding.{first_fault}
use Rattle.warg_bundle.specs.LogBundles.{Bundle, NodesFit}
use Rattle.warg_bundle.specs.Bundling.{needed_by, needed_ascending, bundle_length, node_fault, node_with_digest, bundled, SpellsBundle}
use Rattle.warg_bundle.proofs.NeededLemmas.{among, all_mapped, all_exist}

leaf_claim_is : (p : InclusionClaim) (index n : ℕ) → p.leaf.0 ≡ 2 * index → p.log_length ≡ n → p ≡ leaf_claim index n
leaf_claim_is p index n leaf length =
    ap (λ x. record { leaf = record { 0 = x }; log_length = p.log_length }) leaf
    ∙ ap (λ l. record { leaf = record { 0 = 2 * index }; log_length = l }) length

pub serves_leaf : (F : ℕ → Option (List ℕ)) (cs : List ConsistencyClaim) (ps : List InclusionClaim) (p : InclusionClaim)
    (index n : ℕ) (bytes : List ℕ)
    → cs ≡ [] → ps ≡ p ∷ [] → p.leaf.0 ≡ 2 * index → p.log_length ≡ n → SpellsBundle F cs ps bytes
    → SpellsBundle F [] (leaf_claim index n ∷ []) bytes
serves_leaf F cs ps p index n bytes none one leaf length spells =
    let proofs : ps ≡ leaf_claim index n ∷ [] = one ∙ ap (λ q. q ∷ []) (leaf_claim_is p index n leaf length) in
    rw (none, proofs) at spells

growth_claim_is : (p : ConsistencyClaim) (m n : ℕ) → p.old_length ≡ m → p.new_length ≡ n
    → p ≡ record { old_length = m; new_length = n }
growth_claim_is p m n old new = ap (λ o. record { old_length = o; new_length = p.new_length }) old
    ∙ ap (λ l. record { old_length = m; new_length = l }) new

pub serves_growth : (F : ℕ → Option (List ℕ)) (cs : List ConsistencyClaim) (ps : List InclusionClaim)
    (p : ConsistencyClaim) (m n : ℕ) (bytes : List ℕ)
    → cs ≡ p ∷ [] → ps ≡ [] → p.old_length ≡ m → p.new_length ≡ n → SpellsBundle F cs ps bytes
    → SpellsBundle F (record { old_length = m; new_length = n } ∷ []) [] bytes
serves_growth F cs ps p m n bytes one none old new spells =
    let proofs : cs ≡ record { old_length = m; new_length = n } ∷ [] = one
    ∙ ap (λ q. q ∷ []) (growth_claim_is p m n old new) in rw (proofs, none) at spells

kept_first : (P : ℕ → Type 0) (test : ℕ → Bool) (x : ℕ) (xs : List ℕ) (b : Bool) → test x ≡ b → (test x ≡ true → P x)
    → AllByRecursion P (filter test xs) → AllByRecursion P (filter test (x ∷ xs))
kept_first P test x xs true is holds rest = rw is (holds is, rest)
kept_first P test x xs false is holds rest = rw is rest

-- what holds of each number that a test takes holds of what it leaves
kept : (P : ℕ → Type 0) (test : ℕ → Bool) → ((x : ℕ) → test x ≡ true → P x) → (xs : List ℕ)
    → AllByRecursion P (filter test xs)
kept P test holds [] = tt
kept P test holds (x ∷ xs) = kept_first P test x xs (test x) refl (holds x) (kept P test holds xs)

-- numbers whose digests are held have no fault
no_node_fault : (F : ℕ → Option (List ℕ)) (xs : List ℕ) → AllByRecursion (λ x. node_fault F x ≡ None) xs
    → first_fault (node_fault F) xs ≡ None
no_node_fault F [] all = refl
no_node_fault F (x ∷ xs) all = rw (all.0, no_node_fault F xs all.1) refl

-- proofs of a log of at most 2 ^ 31 entries have a bundle of its own digests, and this has a message
own_bundle : (H : List ℕ → List ℕ) (ds : List (List ℕ)) (cs : List ConsistencyClaim) (ps : List InclusionClaim) (n : ℕ)
    → bundle_length cs ps ≡ Ok n → n ≤ length ds → n ≤ 2 ^ 31
    → AllByRecursion (λ (p : InclusionClaim). p.leaf.0 < 2 ^ 32) ps → (b : Bundle)
    × (bundled (own_digest H ds) cs ps ≡ Ok b) × NodesFit b
own_bundle H ds cs ps n is within small leaves =
    let F = own_digest H ds in
    let olds = map (λ (p : ConsistencyClaim). p.old_length) cs in
    let nodes = map (λ (p : InclusionClaim). p.leaf) ps in
    let numbers = needed_ascending olds nodes n in
    let exist : (x : ℕ) → list_any (nat_eq x) (needed_by olds nodes n) ≡ true
    → ExistsAt x n = λ x there. among (λ y. ExistsAt y n) x (needed_by olds nodes n) (all_exist cs ps n is) there in
    let known = kept (λ x. node_fault F x ≡ None) (λ x. list_any (nat_eq x) (needed_by olds nodes n))
    (λ x there. let e : end_of x ≤ length ds = omega (arith, exist x there) in
    rw (le-leb (end_of x) (length ds) e) refl) (range_with_len 0 (2 * n)) in
    let fit = kept (λ x. x < 2 ^ 32) (λ x. list_any (nat_eq x) (needed_by olds nodes n))
    (λ x there. omega (arith, existing_number x n (exist x there))) (range_with_len 0 (2 * n)) in (
      record {
        log_length = n;
        consistent_lengths = olds;
        included_nodes = nodes;
        hashes = map (node_with_digest F) numbers;
      },
      rw (is, no_node_fault F numbers known) refl,
      (
        all_mapped (λ (node : Node). node.0 < 2 ^ 32) (λ (p : InclusionClaim). p.leaf) ps leaves,
        all_mapped (λ (p : Node × List ℕ). p.0.0 < 2 ^ 32) (node_with_digest F) numbers fit,
      ),
    )

pub own_leaf : (H : List ℕ → List ℕ) (ds : List (List ℕ)) (cs : List ConsistencyClaim) (ps : List InclusionClaim)
    (p : InclusionClaim) (index n : ℕ)
    → cs ≡ [] → ps ≡ p ∷ [] → p.leaf.0 ≡ 2 * index → p.log_length ≡ n → index < n → n ≤ length ds → n ≤ 2 ^ 31
    → (b : Bundle) × (bundled (own_digest H ds) cs ps ≡ Ok b) × NodesFit b
own_leaf H ds cs ps p index n none one leaf length inside within small =
    let claim = leaf_claim index n in
    let proofs : ps ≡ claim ∷ [] = one ∙ ap (λ q. q ∷ []) (leaf_claim_is p index n leaf length) in
    let at = node_at (2 * index) 0 index (omega arith) in
    let exists : end_of (2 * index) ≤ n = rw (at.0, at.1) (omega arith) in
    let is : bundle_length [] (claim ∷ []) ≡ Ok n = rw (
      eq-eqb n n refl,
      le-leb (end_of (2 * index)) n exists,
      lt-ltb n (2 ^ 32) (omega arith),
    ) refl in
    rw (none, proofs) (own_bundle H ds [] (claim ∷ []) n is within small (omega arith, tt))

pub own_growth : (H : List ℕ → List ℕ) (ds : List (List ℕ)) (cs : List ConsistencyClaim) (ps : List InclusionClaim)
    (p : ConsistencyClaim) (m n : ℕ)
    → cs ≡ p ∷ [] → ps ≡ [] → p.old_length ≡ m → p.new_length ≡ n → m ≤ n → n ≤ length ds → n ≤ 2 ^ 31 → (b : Bundle)
    × (bundled (own_digest H ds) cs ps ≡ Ok b) × NodesFit b
own_growth H ds cs ps p m n one none old new order within small =
    let claim : ConsistencyClaim = record { old_length = m; new_length = n } in
    let proofs : cs ≡ claim ∷ [] = one ∙ ap (λ q. q ∷ []) (growth_claim_is p m n old new) in
    let is : bundle_length (claim ∷ []) [] ≡ Ok n =
    rw (le-ltb n m order, eq-eqb n n refl, lt-ltb n (2 ^ 32) (omega arith)) refl in
    rw (proofs, none) (own_bundle H ds (claim ∷ []) [] n is within small tt)
