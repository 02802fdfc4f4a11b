-- Paths that differ, and lead to one root with no collision: where each byte string is its own digest there is none.
use Rattle.std.proofs.Common.{◌≡◌, ◌⊎◌, inl, inr, ℕ, zero, suc, ◌*◌, ◌<◌, ◌≤◌, true, false, List, [], ◌∷◌, length, Option, Some, None, IsSome, refl, ap, subst, arith}
use Rattle.std.specs.Prelude.{replicate}
use Rattle.warg_crypto.specs.Collisions.{AreHashes, SomeCollision}
use Rattle.warg_log.specs.Nodes.{height_of, height_within, place_of, balanced_within}
use Rattle.warg_log.specs.Ranges.{leaves_from}
use Rattle.warg_log.specs.Cut.{old_over, way_within}
use Rattle.warg_log.specs.Walks.{IsKnown, needed, needed_between, read_on}
use Rattle.warg_log.specs.Tree.{front_of, front_within}
use Rattle.warg_log.proofs.ForCallers.{old_full}
use Rattle.warg_paths.specs.Paths.{beside, path_within, inclusion_of, growth_within, consistency_of, inclusion_root, consistency_roots, root_down, roots_down}
use Rattle.warg_paths.specs.Ways.{ArePathInputs, AreGrowthInputs}

-- Each byte string is its own digest.
abbrev own : List ℕ → List ℕ
own m = m

-- So many ones.
abbrev ones : ℕ → List ℕ
ones n = replicate n 1

none_collide : (P : List ℕ → List ℕ → Type 0) → ¬ SomeCollision own P
none_collide P c = c.collide.differ c.collide.same

pub path_sizes_are_needed : ¬ ((H : List ℕ → List ℕ) (m n : ℕ) (x y root : List ℕ) (xs ys : List (List ℕ))
    → AreHashes ys → inclusion_root H m n x xs ≡ Some root → inclusion_root H m n y ys ≡ Some root
    → ((x ≡ y) × (xs ≡ ys)) ⊎ SomeCollision H (ArePathInputs H m n x xs y ys))
unfolding root_down front_of front_within
path_sizes_are_needed law = elim (law own 0 2 (ones 33) (ones 1) (ones 34) ([] ∷ []) (ones 32 ∷ [])
    (refl, tt) refl refl) [
      | inl same ↦ omega (arith, ap length same.0)
      | inr c ↦ none_collide _ c
    ]

pub path_roots_are_needed : ¬ ((H : List ℕ → List ℕ) (m n : ℕ) (x y root : List ℕ) (xs ys : List (List ℕ))
    → AreHashes xs → AreHashes ys → inclusion_root H m n y ys ≡ Some root
    → ((x ≡ y) × (xs ≡ ys)) ⊎ SomeCollision H (ArePathInputs H m n x xs y ys))
unfolding root_down
path_roots_are_needed law = elim (law own 0 1 [] (ones 1) (ones 1) [] [] tt tt refl) [
  | inl same ↦ omega (arith, ap length same.0)
  | inr c ↦ none_collide _ c
]

pub consistency_sizes_are_needed : ¬ ((H : List ℕ → List ℕ) (m n : ℕ) (r s old new : List ℕ) (xs ys : List (List ℕ))
    → AreHashes ys → consistency_roots H m n r xs ≡ Some (old, new)
    → consistency_roots H m n s ys ≡ Some (old, new) → (xs ≡ ys) ⊎ SomeCollision H (AreGrowthInputs H m n r xs s ys))
unfolding roots_down front_of front_within
consistency_sizes_are_needed law =
    elim (law own 3 4 [] [] (ones 65) (ones 98) (ones 31 ∷ ones 32 ∷ ones 33 ∷ []) (ones 32 ∷ ones 32 ∷ ones 32 ∷ [])
    (refl, (refl, (refl, tt))) refl refl) [
      | inl same ↦ let first : ones 31 ≡ ones 32 = cc in omega (arith, ap length first)
      | inr c ↦ none_collide _ c
    ]

pub consistency_roots_are_needed : ¬ ((H : List ℕ → List ℕ) (m n : ℕ) (r s old new : List ℕ) (xs ys : List (List ℕ))
    → AreHashes xs → AreHashes ys → consistency_roots H m n s ys ≡ Some (old, new)
    → (xs ≡ ys) ⊎ SomeCollision H (AreGrowthInputs H m n r xs s ys))
unfolding roots_down
consistency_roots_are_needed law = elim (law own 1 1 [] [] [] [] (ones 32 ∷ []) [] (refl, tt) tt refl) [
  | inl same ↦ absurd cc
  | inr c ↦ none_collide _ c
]

-- No digest is known.
abbrev nothing : ℕ → Option (List ℕ)
nothing x = None

second_unknown : old_over own nothing (leaves_from 1 1) ≡ None
second_unknown = old_full own nothing (leaves_from 1 1) (0, refl)

pub inclusion_digests_are_needed : ¬ ((H : List ℕ → List ℕ) (F : ℕ → Option (List ℕ)) (m n : ℕ) → m < n
    → IsSome (inclusion_of (old_over H F) m n))
unfolding path_within front_of front_within
inclusion_digests_are_needed law =
    let is = law own nothing 0 2 (omega arith) in
    let at : IsSome (beside (Some []) (old_over own nothing (leaves_from 1 1))) = is in
    grind (arith, second_unknown)

pub consistency_digests_are_needed : ¬ ((H : List ℕ → List ℕ) (F : ℕ → Option (List ℕ)) (m n : ℕ) → 0 < m → m ≤ n
    → IsSome (consistency_of (old_over H F) m n))
unfolding growth_within front_of front_within
consistency_digests_are_needed law =
    let is = law own nothing 1 2 (omega arith) (omega arith) in
    let at : IsSome (beside (Some []) (old_over own nothing (leaves_from 1 1))) = is in
    grind (arith, second_unknown)

none_beside : (p : Option (List (List ℕ))) → IsSome (beside p None) → ⊥
none_beside (Some p) is = cc
none_beside None is = cc

pub old_entries_are_needed : ¬ ((H : List ℕ → List ℕ) (F : ℕ → Option (List ℕ)) (m n : ℕ) → m ≤ n
    → IsKnown F (needed_between m n) → IsSome (consistency_of (old_over H F) m n))
unfolding growth_within front_of front_within balanced_within
old_entries_are_needed law =
    let is = law own nothing 0 2 (omega arith) tt in
    let old = growth_within (old_over own nothing) 1 true 0 (leaves_from 0 1) in
    let at : IsSome (beside old (old_over own nothing (leaves_from 1 1))) = is in
    none_beside old (subst (λ o. IsSome (beside old o)) second_unknown at)

-- The digest of each node but the first leaf is known.
abbrev but_first : ℕ → Option (List ℕ)
but_first zero = None
but_first (suc x) = Some []

first_unknown : old_over own but_first (leaves_from 0 1) ≡ None
first_unknown = old_full own but_first (leaves_from 0 1) (0, refl)

pub index_below_is_needed : ¬ ((H : List ℕ → List ℕ) (F : ℕ → Option (List ℕ)) (m n : ℕ) → IsKnown F (needed (2 * m) n)
    → IsSome (inclusion_of (old_over H F) m n))
unfolding path_within front_of front_within way_within read_on height_of height_within place_of
index_below_is_needed law =
    let is = law own but_first 2 2 (refl, tt) in
    let at : IsSome (beside (Some []) (old_over own but_first (leaves_from 0 1))) = is in
    none_beside (Some []) (subst (λ o. IsSome (beside (Some []) o)) first_unknown at)

pub order_of_lengths_is_needed : ¬ ((H : List ℕ → List ℕ) (F : ℕ → Option (List ℕ)) (m n : ℕ) → 0 < m
    → IsKnown F (needed_between m n) → IsSome (consistency_of (old_over H F) m n))
unfolding growth_within front_of front_within way_within read_on height_of height_within place_of balanced_within
order_of_lengths_is_needed law =
    let is = law own but_first 3 2 (omega arith) (refl, (refl, (refl, tt))) in
    let old = growth_within (old_over own but_first) 1 false 2 (leaves_from 1 1) in
    let at : IsSome (beside old (old_over own but_first (leaves_from 0 1))) = is in
    none_beside old (subst (λ o. IsSome (beside old o)) first_unknown at)
