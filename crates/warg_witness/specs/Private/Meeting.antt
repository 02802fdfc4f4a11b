-- A proof or a path that leads to the roots of given entries, what a witness knows of it, and where its evaluation and the
-- trees over them diverge. The digests of a path are given from the topmost down.
use Rattle.std.specs.Prelude.{◌≡◌, ℕ, ◌+◌, ◌^◌, ◌≤◌, List, [], ◌∷◌, length, Option, Some, slice_index_or, ◌<◌, reverse}
use Rattle.warg_log.specs.Tree.{leaves_of, root_of, root_over}
use Rattle.warg_log.specs.Cut.{with_target, with_own}
use Rattle.warg_log.specs.Claims.{InclusionClaim}
use Rattle.warg_log.specs.Ranges.{Range, leaves_from, range_of, IsAligned}
use Rattle.warg_witness.specs.Private.Divergence.{IsDivergence, Shows, inputs_of, root_at}
use Rattle.warg_witness.specs.Claims.{IsMet}
use Rattle.warg_witness.specs.declared.divergence.Divergence.{Divergence}
use Rattle.warg_paths.specs.Paths.{roots_down}
use Rattle.warg_paths.specs.Ways.{IsOnGrowth}
use Rattle.warg_witness.specs.PathClaims.{IsTreeMet}
use Rattle.warg_witness.specs.Ranges.{IsPart}
use Rattle.warg_witness.specs.TreePlaced.{IsTreePlaced}
use Rattle.warg_witness.specs.declared.trees.Trees.{Trees}

-- The target is a node's range, within the tree, which has this digest there.
pub record IsPlainAt (H : List ℕ → List ℕ) (node : ℕ) (tree : List (List ℕ)) (target : Range) (plain : List ℕ) : Type 0 where
  pub target_is : target ≡ range_of node
  pub aligned : IsAligned target.start target.count
  pub within : target.start + target.count ≤ length tree
  pub plain_is : plain ≡ root_over H tree target.start target.count

-- The claim with a digest at the node is met; the tree is the one over the entries, and the evaluation diverges from it as
-- said, on the way from the root to the node.
pub record IsMeeting {D : _} (H : List ℕ → List ℕ) (F : ℕ → Option (List ℕ)) (proof : InclusionClaim) (digest : List ℕ) (entries tree : List (List ℕ)) (divergence : Divergence D) : Type 0 where
  pub met : IsMet H F proof digest entries
  pub tree_is : tree ≡ leaves_of H entries
  pub diverges : IsDivergence H (with_target F (range_of proof.leaf.0) digest) (with_own H tree (range_of proof.leaf.0)) (leaves_from 0 (length tree)) divergence

-- The path leads from the root of the tree over the old entries to the roots of both trees, which can be numbered.
pub record IsTreeMeeting {D V A : _} (H : List ℕ → List ℕ) (path old new : List (List ℕ)) (trees : Trees D V A) : Type 0 where
  pub some : 0 < length old
  pub order : length old ≤ length new
  pub fits : length new ≤ 2 ^ 63
  pub old_is : trees.old ≡ leaves_of H old
  pub new_is : trees.new ≡ leaves_of H new
  pub met : IsTreeMet H path old new

-- Where a path has come to on the way down: at a range of which so many leaves are old, with the root over these, if it is
-- known, and with the digests that are left.
pub record Descent : Type 0 where
  pub known : Option (List ℕ)
  pub old_count : ℕ
  pub range : Range
  pub digests : List (List ℕ)

abbrev pub descent : Option (List ℕ) → ℕ → Range → List (List ℕ) → Descent
descent known m range digests = record { known = known; old_count = m; range = range; digests = digests }

-- At its top, from the old tree's root over all leaves.
abbrev pub whole_descent : {D V A : _} → (List ℕ → List ℕ) → Trees D V A → List (List ℕ) → Descent
whole_descent H trees path = descent (Some (root_of H trees.old)) (length trees.old) (leaves_from 0 (length trees.new)) (reverse path)

-- What is left of the path leads to the roots of the old tree over the old leaves, and of the new one over all.
abbrev pub LeadsOver : {D V A : _} → (List ℕ → List ℕ) → Trees D V A → Descent → Type 0
LeadsOver H trees d = roots_down H d.known d.old_count d.range.count d.digests ≡ Some (root_at H trees.old (leaves_from d.range.start d.old_count), root_at H trees.new d.range)

-- The trees are those over entries that differ at the place, and the range is on a path's way from the old to the new: one of
-- the new tree, and its old leaves one of the old tree.
pub record IsOnWayOver {D V A : _} (H : List ℕ → List ℕ) (path old new : List (List ℕ)) (trees : Trees D V A) (place : ℕ) (d : Descent) : Type 0 where
  pub old_is : trees.old ≡ leaves_of H old
  pub new_is : trees.new ≡ leaves_of H new
  pub differ : slice_index_or old place [] ≡ slice_index_or new place [] → ⊥
  pub on_way : IsOnGrowth (Some (root_of H (leaves_of H old))) (length old) (length new) (reverse path) d.known d.old_count d.range.start d.range.count d.digests
  pub in_old : IsPart 0 (length old) d.range.start d.old_count
  pub in_new : IsPart 0 (length new) d.range.start d.range.count

-- Of all entries and all paths for which it is such a range, the divergence shows a collision, or both entries do.
abbrev pub IsTreeDivergence : {D V A : _} → (List ℕ → List ℕ) → Trees D V A → ℕ → Descent → Divergence D → Type 0
IsTreeDivergence H trees place d p = (path old new : List (List ℕ)) → IsOnWayOver H path old new trees place d
    → Shows H (IsTreePlaced H path old new) (inputs_of p (0 ∷ slice_index_or old place []) (0 ∷ slice_index_or new place []))
