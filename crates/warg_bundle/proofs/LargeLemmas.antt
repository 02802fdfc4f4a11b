-- Proofs of a log of more than 2 ^ 31 entries need a node whose number doesn't fit in 32 bits.
use Rattle.std.proofs.Common.{◌≡◌, ◌⊎◌, inl, inr, ℕ, suc, ◌+◌, ◌-◌, ◌*◌, ◌^◌, ◌<◌, ◌≤◌, nat_lt, nat_eq, List, [], ◌∷◌, ◌++◌, length, map, append-nil, ⊎_elim, Option, Some, None, Ok, refl, sym, ap, subst, ◌∙◌, arith, le-ltb}
use Rattle.std.specs.Prelude.{replicate, if◌then◌else◌}
use Rattle.std.specs.List.{AllByRecursion, flat_map, list_any}
use Rattle.std.proofs.lemmas.Bool.{cases_lt, lt-ltb, eq-eqb}
use Rattle.std.proofs.lemmas.List.{length-replicate}
use Rattle.std.proofs.Math.Pow.{pow_mono}
use Rattle.std.proofs.Math.Nat.{pow-suc}
use Rattle.std.proofs.lemmas.Nat.{pow_pos}
use Rattle.warg_log.specs.declared.node.Node.{Node}
use Rattle.warg_log.specs.Nodes.{ExistsAt, height_of, start_of, end_of, node_over, balanced_over, balanced_roots}
use Rattle.warg_log.specs.Ranges.{Range, leaves_from, range_of, rest_part, front_part}
use Rattle.warg_log.specs.Tree.{front_of, root_over, own_digest}
use Rattle.warg_log.specs.Cut.{joined, with_target, cut_root, old_over, IsFull}
use Rattle.warg_log.specs.Walks.{needed, needed_between}
use Rattle.warg_log.specs.Claims.{ConsistencyClaim, leaf_claim}
use Rattle.warg_log.proofs.ForCallers.{below_pow, balanced_full, balanced_parts, roots_exist, front_is_greatest, pow_below_pow, cut_parts, cut_old, cut_own_range, old_full, old_parts, same_cut, node_at, counts, IsBeside}
use Rattle.warg_protobuf.proofs.ForCallers.{all_weaken, all_parts}
use Rattle.warg_bundle.specs.LogBundles.{Bundle, NodesFit}
use Rattle.warg_bundle.specs.Bundling.{needed_by, bundled}
use Rattle.warg_bundle.proofs.NeededLemmas.{among, all_among, all_mapped, bundle_holds}

-- no branch without its first part
no_branch : (H : List ℕ → List ℕ) (p q : Option (List ℕ)) → (p ≡ None) ⊎ (q ≡ None) → joined H p q ≡ None
no_branch H None q none = refl
no_branch H (Some l) None none = refl
no_branch H (Some l) (Some r) (inl is) = absurd (cc)
no_branch H (Some l) (Some r) (inr is) = absurd (cc)

-- the first part of a log of more than 2 ^ 31 entries has as many at least
front_large : (n : ℕ) → 2 ^ 31 < n → 2 ^ 31 ≤ front_of n
front_large n large =
    let (full, less, twice) = front_is_greatest n (omega arith) in
    let more : 2 ^ 30 < 2 ^ full.0 = omega (arith, full.1) in
    let low : 30 < full.0 = pow_below_pow 30 full.0 more in
    let least = pow_mono {i = 31} {j = full.0} (omega arith) in
    omega (arith, full.1)

-- The digests that F has for numbers of 32 bits.
abbrev small_of : (ℕ → Option (List ℕ)) → ℕ → Option (List ℕ)
small_of F x = if nat_lt x (2 ^ 32) then F x else None

-- a number is a power of two, or none
full_or_not : (n : ℕ) → 0 < n → IsFull n ⊎ (IsFull n → ⊥)
full_or_not n some = elim (cases_lt 1 n) [
  | inr few ↦ let one : n ≡ 2 ^ 0 = omega arith in inl (0, one)
  | inl more ↦
      let (full, less, twice) = front_is_greatest n more in
      let double : 2 * 2 ^ full.0 ≡ 2 ^ suc full.0 = omega (arith, pow-suc 2 full.0) in
      elim (cases_lt n (2 * front_of n)) [
        | inr whole ↦ let is : n ≡ 2 ^ suc full.0 = omega (arith, full.1) in inl (suc full.0, is)
        | inl part ↦ inr (λ h.
            let higher = pow_below_pow full.0 h.0 (omega (arith, full.1, h.1)) in
            let most = pow_mono {i = suc full.0} {j = h.0} (omega arith) in
            omega (arith, full.1, h.1))
      ]
]

none_at : (F : ℕ → Option (List ℕ)) (x : ℕ) → 2 ^ 32 ≤ x → small_of F x ≡ None
none_at F x large = rw (le-ltb x (2 ^ 32) large) refl

-- a range behind 2 ^ 31 leaves has no root by them
behind_none : (H : List ℕ → List ℕ) (F : ℕ → Option (List ℕ)) (r : Range) → 2 ^ 31 ≤ r.start → 0 < r.count
    → old_over H (small_of F) r ≡ None
behind_none H F r far some = elim (full_or_not r.count some) [
  | inl full ↦ old_full H (small_of F) r full ∙ none_at F (node_over r.start r.count) (omega arith)
  | inr part ↦ elim (cases_lt 1 r.count) [
    | inr few ↦ let one : r.count ≡ 2 ^ 0 = omega arith in absurd (part (0, one))
    | inl more ↦
        let (full, less, twice) = front_is_greatest r.count more in
        old_parts H (small_of F) r more part
        ∙ no_branch H _ _ (inl (old_full H (small_of F) (front_part r) full
        ∙ none_at F (node_over r.start (front_of r.count)) (omega (arith, full.1, pow_pos full.0))))
  ]
]

-- the needed nodes of one in the first part don't all have numbers of 32 bits
needed_large : (t n : ℕ) → 2 ^ 31 < n → ExistsAt t (front_of n) → AllByRecursion (λ x. x < 2 ^ 32) (needed t n) → ⊥
needed_large t n large there fit =
    let H : List ℕ → List ℕ = λ m. [] in
    let ds : List (List ℕ) = replicate n [] in
    let size : length ds ≡ n = length-replicate n [] in
    let F = own_digest H ds in
    let x = root_over H ds (start_of t) (2 ^ height_of t) in
    let target = range_of t in
    let all = leaves_from 0 n in
    let (full, less, twice) = front_is_greatest n (omega arith) in
    let far = front_large n large in
    let unit = pow_pos (height_of t) in
    let own = cut_own_range H ds target all (omega arith)
    (record { height = n; place = 0; start = omega arith; most = omega (arith, below_pow n) })
    (omega (arith, size)) in
    let same : cut_root H F t x n ≡ cut_root H (small_of F) t x n = same_cut H F (small_of F) x t n
    (all_weaken (λ y. y < 2 ^ 32) (λ y. F y ≡ small_of F y) (λ y low. rw (lt-ltb y (2 ^ 32) low) refl)
    (needed t n) fit) in
    let e = with_target (small_of F) target x in
    let rest = rest_part all in
    let beside : IsBeside target rest = inr (omega arith) in
    let behind = cut_old H e rest unit (omega arith) beside ∙ behind_none H F rest (omega arith) (omega arith) in
    let none : cut_root H (small_of F) t x n ≡ None =
    cut_parts H e all (omega arith) (λ is. omega (arith, counts is))
    (λ whole apart. ⊎_elim (λ low. omega arith) (λ high. omega arith) apart) ∙ no_branch H _ _ (inr behind) in
    let both : Some _ ≡ None = sym own ∙ same ∙ none in cc

-- what holds of all numbers of a bundle holds of those that its proofs need
needed_fit : (b : Bundle) (ys : List ℕ)
    → ((x : ℕ) → list_any (nat_eq x) (map (λ (p : Node × List ℕ). p.0.0) b.hashes) ≡ list_any (nat_eq x) ys)
    → NodesFit b → AllByRecursion (λ x. x < 2 ^ 32) ys
needed_fit b ys exactly fit =
    all_among (λ x. x < 2 ^ 32) ys (λ x there. among (λ x. x < 2 ^ 32) x (map (λ (p : Node × List ℕ). p.0.0) b.hashes)
    (all_mapped (λ x. x < 2 ^ 32) (λ (p : Node × List ℕ). p.0.0) b.hashes fit.1) (exactly x ∙ there))

pub leaf_never_fits : (F : ℕ → Option (List ℕ)) (index n : ℕ) (b : Bundle) → index < n → 2 ^ 31 < n
    → bundled F [] (leaf_claim index n ∷ []) ≡ Ok b → NodesFit b → ⊥
leaf_never_fits F index n b inside large is fit =
    let holds = bundle_holds F [] (leaf_claim index n ∷ []) b is in
    let length_is : n ≡ b.log_length = holds.log_lengths.0 in
    let nodes = holds.nodes in
    let leaf : 2 * index < 2 ^ 32 = (subst (AllByRecursion (λ (node : Node). node.0 < 2 ^ 32)) nodes fit.0).0 in
    let all = needed_fit b (needed_by b.consistent_lengths b.included_nodes b.log_length) holds.exactly fit in
    let needed_all : AllByRecursion (λ x. x < 2 ^ 32) (needed (2 * index) n) = rw (append-nil (needed (2 * index) n)) at
    (rw (holds.old_lengths, nodes, ← length_is) at all) in
    let at = node_at (2 * index) 0 index (omega arith) in
    let there : end_of (2 * index) ≤ front_of n = rw (at.1, at.0) (omega (arith, front_large n large)) in
    needed_large (2 * index) n large there needed_all

-- a log's first balanced root begins with its first leaf
first_root : (a k : ℕ) → 0 < k → (c : ℕ) × (ts : List ℕ) × (balanced_over a k ≡ node_over a c ∷ ts) × (0 < c)
first_root a k some = elim (full_or_not k some) [
  | inl full ↦ (k, [], balanced_full a k full, some)
  | inr part ↦ elim (cases_lt 1 k) [
    | inr few ↦ let one : k ≡ 2 ^ 0 = omega arith in absurd (part (0, one))
    | inl more ↦ let (full, less, twice) = front_is_greatest k more in (
      front_of k,
      balanced_over (a + front_of k) (k - front_of k),
      balanced_parts a k more part,
      omega (arith, full.1, pow_pos full.0),
    )
  ]
]

pub growth_never_fits : (F : ℕ → Option (List ℕ)) (m n : ℕ) (b : Bundle) → 0 < m → m ≤ n → 2 ^ 31 < n
    → bundled F (record { old_length = m; new_length = n } ∷ []) [] ≡ Ok b → NodesFit b → ⊥
growth_never_fits F m n b some order large is fit =
    let claim : ConsistencyClaim = record { old_length = m; new_length = n } in
    let holds = bundle_holds F (claim ∷ []) [] b is in
    let length_is : n ≡ b.log_length = holds.new_lengths.0 in
    let all = needed_fit b (needed_by b.consistent_lengths b.included_nodes b.log_length) holds.exactly fit in
    let Fit : ℕ → Type 0 = λ x. x < 2 ^ 32 in
    let between : AllByRecursion Fit (needed_between m n) =
    (all_parts Fit (needed_between m n) []
    ((all_parts Fit (needed_between m n ++ []) []
    (rw (holds.old_lengths, holds.nodes, ← length_is) at all)).0)).0 in
    let low : n < 2 ^ 32 = elim (cases_lt n (2 ^ 32)) [
      | inl low ↦ low
      | inr high ↦ absurd
          (let e = rw (le-ltb n m order, eq-eqb n n refl, le-ltb n (2 ^ 32) high) at is in cc)
    ] in
    elim (cases_lt (front_of n) m) [
      | inr inside ↦
          let (c, ts, roots, wide) = first_root 0 m some in
          let t = node_over 0 c in
          let at = subst (λ l. AllByRecursion Fit (flat_map (λ t. t ∷ needed t n) l)) roots between in
          let there = (subst (AllByRecursion (λ t. end_of t ≤ m)) roots (roots_exist m)).0 in
          needed_large t n large (omega (arith, there)) ((all_parts Fit (needed t n) _ at.1).0)
      | inl behind ↦
          let far = front_large n large in
          let part : IsFull m → ⊥ = λ h. omega (
            arith,
            pow_below_pow 31 h.0 (omega (arith, h.1)),
            pow_below_pow h.0 32 (omega (arith, h.1)),
          ) in
          let start = front_large m (omega arith) in
          let (full, less, twice) = front_is_greatest m (omega arith) in
          let (c, ts, roots, wide) = first_root (0 + front_of m) (m - front_of m) (omega arith) in
          let whole : balanced_roots m ≡ node_over 0 (front_of m) ∷ node_over (0 + front_of m) c ∷ ts =
          balanced_parts 0 m (omega arith) part ∙ ap (λ l. node_over 0 (front_of m) ∷ l) roots in
          let at = subst (λ l. AllByRecursion Fit (flat_map (λ t. t ∷ needed t n) l)) whole between in
          let second = (all_parts Fit (needed (node_over 0 (front_of m)) n) _ at.1).1 in
          omega (arith, second.0)
    ]
