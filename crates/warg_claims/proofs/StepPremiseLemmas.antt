-- A step with a true verdict that ends elsewhere with no collision, where digests have any length.
use Rattle.std.proofs.Common.{◌≡◌, ℕ, zero, suc, ◌<◌, ◌≤◌, ◌==◌, inl, inr, Bool, true, false, List, [], ◌∷◌, ◌++◌, length, Option, Some, None, Ok, if◌then◌else◌, unwrap_or, refl, sym, ap, subst, ◌∙◌, arith, length-append}
use Rattle.std.specs.Prelude.{replicate}
use Rattle.std.specs.Cmp.Lexicographic.{bytes_decides}
use Rattle.std.specs.FinMap.{get, get-empty, empty}
use Rattle.std.proofs.lemmas.Bool.{cases_Bool, cases_lt, lt-ltb}
use Rattle.warg_crypto.specs.Collisions.{Collides, SomeCollision}
use Rattle.warg_crypto.specs.EmptyTrees.{empty_root}
use Rattle.warg_crypto.specs.Tree.{leaf_digest}
use Rattle.warg_protobuf.specs.Field.{payload_at, field_at}
use Rattle.warg_protobuf.specs.MapInclusionProof.{proof_schema}
use Rattle.warg_protobuf.specs.MapProofBundle.{MapBundle, map_schema}
use Rattle.warg_protobuf.specs.OptionalHash.{hash_schema}
use Rattle.warg_protobuf.specs.Reading.{all_in, all_of}
use Rattle.warg_protobuf.specs.Schema.{bytes_in, message_of, message_in, values, last_of}
use Rattle.warg_protobuf.specs.Varint.{varint_in, varint_at}
use Rattle.warg_map.specs.Bits.{bits_from, key_bits}
use Rattle.warg_map.specs.Last.{last_with, same_bits}
use Rattle.warg_map.specs.Messages.{Peers}
use Rattle.warg_map.specs.ProofValue.{peer_of, proof_value}
use Rattle.warg_map.specs.Sparse.{SparseMap, root_of_levels, sparse_root, map_of, inserted, bits_cmp}
use Rattle.warg_map.proofs.ForCallers.{all_bits, last_held, same_bits-true, same_bits-itself}
use Rattle.warg_bundle.specs.MapBundles.{map_bundle_of}
use Rattle.warg_witness.specs.MapInputs.{path_input, plain_input_at}
use Rattle.warg_witness.specs.MapPlaced.{IsPlacedAtPrefix}
use Rattle.warg_witness.specs.UpdateClaims.{Step, insertions_of, CollidesAtStep}
use Rattle.warg_check.specs.Claims.{Claim, Evidence, verdict}
use Rattle.warg_check.specs.Claims.Claim.{update}
use Rattle.warg_check.specs.Claims.Evidence.{by_bundle}
use Rattle.warg_check.specs.Verdicts.{verdict_at}
use Rattle.warg_check.specs.UpdateVerdicts.{leads_both}
use Rattle.warg_claims.specs.Audits.{AreChecked, steps_of}
use Rattle.warg_claims.specs.Placed.{peers_in}

-- So many sevens.
abbrev sevens : ℕ → List ℕ
sevens n = replicate n 7

-- The digest of bytes by their number: an empty leaf and an empty tree have 20 sevens; the leaf of one byte, and what
-- it leads
-- to beside an empty tree, have eight, and the leaf of two bytes, and what it leads to beside an empty tree, have one.
abbrev size : ℕ → ℕ
size n =
    if n == 1 then 20
    else if n == 41 then 20
    else if n == 2 then 8
    else if n == 29 then 8
    else if n == 3 then 1
    else if n == 22 then 1
    else 0

abbrev pub by_number : List ℕ → List ℕ
by_number m = sevens (size (length m))

empties : (k : ℕ) → empty_root by_number k ≡ sevens 20
unfolding empty_root
empties zero = refl
empties (suc k) = rw (empties k) refl

-- A peer at the top, of 32 sevens: beside eight they make the bytes of two empty trees.
abbrev top : Peers
top = Some (sevens 32) ∷ []

below_top : (k : ℕ) → k < 255 → peer_of by_number top k ≡ sevens 20
below_top k low = rw (lt-ltb k 255 low) (empties k)

at_top : (k : ℕ) → k ≡ 255 → peer_of by_number top k ≡ sevens 32
at_top k is = rw is refl

-- From a leaf of one byte they lead to eight below the top, and from one of two bytes to one.
eight_up : (bits : List Bool) → length bits ≤ 255 → proof_value by_number top (sevens 8) bits ≡ sevens 8
unfolding proof_value
eight_up [] low = refl
eight_up (true ∷ bits) low = rw (eight_up bits (omega arith), below_top (length bits) (omega arith)) refl
eight_up (false ∷ bits) low = rw (eight_up bits (omega arith), below_top (length bits) (omega arith)) refl

one_up : (bits : List Bool) → length bits ≤ 255 → proof_value by_number top (sevens 1) bits ≡ sevens 1
unfolding proof_value
one_up [] low = refl
one_up (true ∷ bits) low = rw (one_up bits (omega arith), below_top (length bits) (omega arith)) refl
one_up (false ∷ bits) low = rw (one_up bits (omega arith), below_top (length bits) (omega arith)) refl

-- So at the top to the root of the empty map, and to nothing.
old_top : (bits : List Bool) → length bits ≡ 256 → proof_value by_number top (sevens 8) bits ≡ sevens 20
unfolding proof_value
old_top [] all = absurd (omega arith)
old_top (true ∷ bits) all = rw (eight_up bits (omega arith), at_top (length bits) (omega arith)) refl
old_top (false ∷ bits) all = rw (eight_up bits (omega arith), at_top (length bits) (omega arith)) refl

new_top : (bits : List Bool) → length bits ≡ 256 → proof_value by_number top (sevens 1) bits ≡ []
unfolding proof_value
new_top [] all = absurd (omega arith)
new_top (true ∷ bits) all = rw (one_up bits (omega arith), at_top (length bits) (omega arith)) refl
new_top (false ∷ bits) all = rw (one_up bits (omega arith), at_top (length bits) (omega arith)) refl

-- Where nothing is held, the root is that of an empty tree.
none_root : (k : ℕ) (held : List Bool → Option (List ℕ)) → ((q : List Bool) → held q ≡ None)
    → root_of_levels by_number k held ≡ sevens 20
unfolding root_of_levels
none_root zero held none = ap (λ o. unwrap_or o (empty_root by_number 0)) (none []) ∙ empties 0
none_root (suc k) held none =
    rw (
      none_root k (λ q. held (false ∷ q)) (λ q. none (false ∷ q)),
      none_root k (λ q. held (true ∷ q)) (λ q. none (true ∷ q)),
    ) refl

none_held : (q : List Bool) → get (map_of by_number []) q ≡ None
unfolding inserted
none_held q = get-empty bits_cmp q

abbrev nothing : SparseMap
nothing = empty

none_in : (q : List Bool) → get nothing q ≡ None
none_in q = get-empty bits_cmp q

-- Where one leaf of two bytes is held, at the very left, it is one seven.
lone_root : (k : ℕ) (held : List Bool → Option (List ℕ)) → held (replicate k false) ≡ Some (sevens 1)
    → ((q : List Bool) → (q ≡ replicate k false → ⊥) → held q ≡ None) → root_of_levels by_number k held ≡ sevens 1
unfolding root_of_levels
lone_root zero held is other = ap (λ o. unwrap_or o (empty_root by_number 0)) is
lone_root (suc k) held is other =
    let left =
    lone_root k (λ q. held (false ∷ q)) is (λ q differs. other (false ∷ q)
    (λ same. differs (let tail : q ≡ replicate k false = cc in tail))) in
    let right = none_root k (λ q. held (true ∷ q)) (λ q. other (true ∷ q) (λ same. absurd cc)) in
    rw (left, right) refl

abbrev key : List ℕ
key = []

abbrev value : List ℕ
value = 5 ∷ 5 ∷ []

abbrev lone : List (List ℕ × List ℕ)
lone = (key, value) ∷ []

bits_are : key_bits by_number key ≡ replicate 256 false
unfolding bits_from
bits_are = refl

lone_other : (q : List Bool) → (q ≡ replicate 256 false → ⊥) → get (map_of by_number lone) q ≡ None
unfolding last_with
lone_other q differs =
    let isnt : same_bits q (key_bits by_number key) ≡ false = elim (cases_Bool (same_bits q (key_bits by_number key))) [
      | inl t ↦ absurd (differs (same_bits-true q (key_bits by_number key) t ∙ bits_are))
      | inr f ↦ f
    ] in
    last_held by_number q lone ∙ rw isnt refl

lone_here : get (map_of by_number lone) (key_bits by_number key) ≡ Some (sevens 1)
unfolding last_with
lone_here = last_held by_number (key_bits by_number key) lone ∙ rw (same_bits-itself (key_bits by_number key)) refl

lone_is : sparse_root by_number 256 (map_of by_number lone) ≡ sevens 1
lone_is =
    lone_root 256 (get (map_of by_number lone)) (ap (get (map_of by_number lone)) (sym bits_are) ∙ lone_here) lone_other

-- The bytes of the bundle of this one proof.
abbrev bytes : List ℕ
bytes = 10 ∷ 36 ∷ 10 ∷ 34 ∷ 10 ∷ 32 ∷ sevens 32

abbrev bundle : MapBundle
bundle = record { proofs = top ∷ []; absences = [] }

read : map_bundle_of bytes ≡ Ok bundle
unfolding payload_at field_at proof_schema map_schema hash_schema all_in all_of bytes_in message_of message_in values
    last_of varint_in varint_at
read = refl

abbrev old_root : List ℕ
old_root = sparse_root by_number 256 nothing

abbrev claim : Claim
claim = update key (0 ∷ []) value old_root []

shows_both : leads_both by_number key (leaf_digest by_number (0 ∷ [])) (leaf_digest by_number value) old_root [] top
    ≡ true
shows_both =
    let bits = key_bits by_number key in
    let from_old = old_top bits (all_bits by_number key) ∙ sym (none_root 256 (get nothing) none_in) in
    let from_new = new_top bits (all_bits by_number key) in
    rw ((bytes_decides _ old_root).1 from_old, (bytes_decides _ []).1 from_new) refl

shown : verdict by_number claim (by_bundle bytes 0) ≡ Ok true
shown =
    let holds : MapBundle → Peers → Bool =
    λ b. leads_both by_number key (leaf_digest by_number (0 ∷ [])) (leaf_digest by_number value) old_root [] in
    ap (verdict_at (λ (b : MapBundle). b.proofs) holds 0) read ∙ ap Ok shows_both

abbrev pub the_steps : List (Claim × Evidence)
the_steps = (claim, by_bundle bytes 0) ∷ []

pub checked : AreChecked by_number (sparse_root by_number 256 empty) the_steps []
unfolding AreChecked
checked = ([], (refl, refl), shown, refl)

-- At no prefix of the key's bits do the bytes of the evaluation and those of the empty map collide.
low_fork : (b : Bool) (below : List Bool) → length below < 255
    → path_input by_number top (0 ∷ []) (b ∷ below) ≡ 1 ∷ sevens 28
low_fork true below low = rw (eight_up below (omega arith), below_top (length below) low) refl
low_fork false below low = rw (eight_up below (omega arith), below_top (length below) low) refl

top_fork : (b : Bool) (below : List Bool) → length below ≡ 255
    → path_input by_number top (0 ∷ []) (b ∷ below) ≡ 1 ∷ sevens 40
top_fork true below all = rw (eight_up below (omega arith), at_top (length below) all) refl
top_fork false below all = rw (eight_up below (omega arith), at_top (length below) all) refl

two_empty : (prefix : List Bool) (k : ℕ) → plain_input_at by_number [] prefix (suc k) ≡ 1 ∷ sevens 40
two_empty prefix k =
    let left =
    none_root k (λ q. get (map_of by_number []) (prefix ++ false ∷ q)) (λ q. none_held (prefix ++ false ∷ q)) in
    let right =
    none_root k (λ q. get (map_of by_number []) (prefix ++ true ∷ q)) (λ q. none_held (prefix ++ true ∷ q)) in
    rw (left, right) refl

eight_or_twenty : sevens 8 ≡ sevens 20 → ⊥
eight_or_twenty is = omega (arith, ap length is)

apart : (prefix rest : List Bool) (first second : List ℕ) → length rest ≤ 256
    → first ≡ path_input by_number top (0 ∷ []) rest
    → second ≡ plain_input_at by_number [] prefix (length rest) → Collides by_number (first, second) → ⊥
unfolding last_with
apart prefix [] first second few is other c = eight_or_twenty (sym (ap by_number is) ∙ c.same ∙ ap by_number other)
apart prefix (b ∷ below) first second few is other c = elim (cases_lt (length below) 255) [
  | inl low ↦
      eight_or_twenty (sym (ap by_number (is ∙ low_fork b below low)) ∙ c.same
      ∙ ap by_number (other ∙ two_empty prefix (length below)))
  | inr high ↦ c.differ (is ∙ top_fork b below (omega arith) ∙ sym (other ∙ two_empty prefix (length below)))
]

abbrev the_step : Step
the_step = record { peers = top; key = key; old_value = 0 ∷ []; new_value = value }

one_step : steps_of the_steps ≡ the_step ∷ []
one_step =
    ap (λ (peers : Peers). record { peers = peers; key = key; old_value = 0 ∷ []; new_value = value } ∷ [])
    (ap (peers_in (λ (b : MapBundle). b.proofs) 0) read)

at_the_step : SomeCollision by_number (IsPlacedAtPrefix by_number top (0 ∷ []) key []) → ⊥
at_the_step c =
    let few : length c.placed.rest ≤ 256 =
    omega (arith, all_bits by_number key, ap length c.placed.bits, length-append c.placed.prefix c.placed.rest) in
    apart c.placed.prefix c.placed.rest c.first c.second few c.placed.evaluation c.placed.plain c.collide

at_step : (before : List Step) (step : Step) (after : List Step) → the_step ∷ [] ≡ before ++ step ∷ after
    → SomeCollision by_number (IsPlacedAtPrefix by_number step.peers step.old_value step.key (insertions_of before)) → ⊥
at_step [] step after split c =
    let is : step ≡ the_step = cc in
    at_the_step (subst (λ (s : Step). SomeCollision by_number (IsPlacedAtPrefix by_number s.peers s.old_value s.key []))
    is c)
at_step (other ∷ before) step after split c = omega (arith, ap length split, length-append before (step ∷ after))

pub none_collide : CollidesAtStep by_number (steps_of the_steps) → ⊥
none_collide c = at_step c.before c.step c.after (sym one_step ∙ c.split) c.collision

pub ends_elsewhere : [] ≡ sparse_root by_number 256 (map_of by_number (insertions_of (steps_of the_steps))) → ⊥
ends_elsewhere same = omega (arith, ap length (same ∙ lone_is))
