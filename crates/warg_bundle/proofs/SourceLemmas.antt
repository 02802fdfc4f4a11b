-- A bundle's proofs over its own digests.
use Rattle.std.proofs.Common.{◌≡◌, ℕ, nat_eq, true, List, [], ◌∷◌, map, Option, Some, refl, sym, ◌∙◌, ⊎_elim}
use Rattle.std.specs.List.{AllByRecursion, flat_map, list_any}
use Rattle.std.proofs.lemmas.Bool.{eq-eqb, ne_eqb, or_left, or_right, cases_eq}
use Rattle.warg_log.specs.declared.node.Node.{Node}
use Rattle.warg_log.specs.Sparse.{Pairs, held_digest}
use Rattle.warg_log.specs.Cut.{cut_root}
use Rattle.warg_log.specs.Walks.{needed, needed_between}
use Rattle.warg_log.specs.Consistency.{consistency}
use Rattle.warg_bundle.specs.Bundling.{needed_by}
use Rattle.warg_protobuf.proofs.ForCallers.{all_parts, all_flat}
use Rattle.warg_log.proofs.ForCallers.{same_cut, same_consistency}

-- what is held for the needed nodes was taken from the source
held_is : (F : ℕ → Option (List ℕ)) (ps : Pairs) (x : ℕ) → AllByRecursion (λ (p : Node × List ℕ). F p.0.0 ≡ Some p.1) ps
    → list_any (nat_eq x) (map (λ (p : Node × List ℕ). p.0.0) ps) ≡ true → held_digest ps x ≡ F x
held_is F [] x all there = absurd (cc there)
held_is F (p ∷ ps) x all there = ⊎_elim
    (λ (e : x ≡ p.0.0). rw (e, eq-eqb p.0.0 p.0.0 refl) (sym all.0))
    (λ (other : x ≡ p.0.0 → ⊥). rw (ne_eqb p.0.0 x (λ e. other (sym e)))
    (held_is F ps x all.1 (rw (ne_eqb x p.0.0 other) at there)))
    (cases_eq x p.0.0)

all_held : (F : ℕ → Option (List ℕ)) (ps : Pairs) (ys : List ℕ)
    → AllByRecursion (λ (p : Node × List ℕ). F p.0.0 ≡ Some p.1) ps
    → ((x : ℕ) → list_any (nat_eq x) ys ≡ true → list_any (nat_eq x) (map (λ (p : Node × List ℕ). p.0.0) ps) ≡ true)
    → AllByRecursion (λ y. held_digest ps y ≡ F y) ys
all_held F ps [] all there = tt
all_held F ps (y ∷ ys) all there = (
  held_is F ps y all (there y (or_left (nat_eq y y) _ (eq-eqb y y refl))),
  all_held F ps ys all (λ x h. there x (or_right (nat_eq x y) _ h)),
)

-- so it is of all proofs of a bundle
module _ (H : List ℕ → List ℕ) (F : ℕ → Option (List ℕ)) (ps : Pairs) (n : ℕ) (old_lengths : List ℕ) (nodes : List Node)
    (all : AllByRecursion (λ (p : Node × List ℕ). F p.0.0 ≡ Some p.1) ps)
    (exactly : (x : ℕ) → list_any (nat_eq x) (map (λ (p : Node × List ℕ). p.0.0) ps) ≡ list_any (nat_eq x)
    (needed_by old_lengths nodes n)) where
  bundled : AllByRecursion (λ y. held_digest ps y ≡ F y) (flat_map (λ m. needed_between m n) old_lengths)
      × AllByRecursion (λ y. held_digest ps y ≡ F y) (flat_map (λ (node : Node). needed node.0 n) nodes)
  bundled = all_parts _ _ _ (all_held F ps (needed_by old_lengths nodes n) all (λ x h. exactly x ∙ h))

  pub included_same : (x : List ℕ)
      → AllByRecursion (λ (node : Node). cut_root H (held_digest ps) node.0 x n ≡ cut_root H F node.0 x n) nodes
  included_same x = all_flat (λ y. held_digest ps y ≡ F y) (λ (node : Node). needed node.0 n) _
      (λ node. same_cut H (held_digest ps) F x node.0 n) nodes bundled.1

  pub consistent_same : AllByRecursion (λ m. consistency H (held_digest ps) m n ≡ consistency H F m n) old_lengths
  consistent_same = all_flat (λ y. held_digest ps y ≡ F y) (λ m. needed_between m n) _
      (λ m. same_consistency H (held_digest ps) F m n) old_lengths bundled.0
