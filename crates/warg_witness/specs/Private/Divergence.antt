-- Ranges of the tree's recursion, as the private functions speak of them, and where two evaluations that have one digest at a
-- range diverge, on the way down to a target in both.
use Rattle.std.specs.Prelude.{◌≡◌, ℕ, ◌*◌, ◌^◌, ◌<◌, Bool, false, List, Some, if◌then◌else◌}
use Rattle.warg_log.specs.Ranges.{Range, front_part, rest_part}
use Rattle.warg_log.specs.Cut.{Evaluation, cut_over}
use Rattle.warg_log.specs.Tree.{root_over}
use Rattle.warg_witness.specs.Ranges.{IsPart, IsAround}
use Rattle.warg_crypto.specs.Collisions.{Collides}
use Rattle.warg_crypto.specs.Tree.{input_beside, branch_input}
use Rattle.warg_witness.specs.Inputs.{cut_input}
use Rattle.warg_witness.specs.declared.divergence.Branches.{Branches}
use Rattle.warg_witness.specs.declared.divergence.Climb.{Climb}
use Rattle.warg_witness.specs.declared.divergence.Divergence.{Divergence}
use Rattle.warg_witness.specs.declared.divergence.Divergence.TheVariants.{Target, Branch}

-- The root over a range of a tree, which is given by its leaf digests.
abbrev pub root_at : (List ℕ → List ℕ) → List (List ℕ) → Range → List ℕ
root_at H tree range = root_over H tree range.start range.count

-- The range is a node's: a power of two of leaves, from a multiple of it on.
pub record IsNodeRange (range : Range) : Type 0 where
  pub height : ℕ
  pub place : ℕ
  pub start : range.start ≡ place * 2 ^ height
  pub count : range.count ≡ 2 ^ height

-- The second range has all leaves of the first, and more.
pub record IsAbove (inner outer : Range) : Type 0 where
  pub around : IsAround inner outer
  pub more : inner.count < outer.count

-- The part of a range on the side of a bit, 0 on the left.
abbrev pub side_of : Bool → Range → Range
side_of right range = if right then rest_part range else front_part range

-- The two byte lists that the digest function takes at two branches.
abbrev pub inputs : {D : _} → Branches D → List ℕ × List ℕ
inputs b = (input_beside b.right b.first_beside b.first, input_beside b.right b.second_beside b.second)

-- The branch of an evaluation over the first two digests isn't a tree's over the other two, and these are both.
pub record BranchesDiffer {D : _} (left right tree_left tree_right : List ℕ) (b : Branches D) : Type 0 where
  pub differ : branch_input left right ≡ branch_input tree_left tree_right → ⊥
  pub are : b ≡ record { right = false; first = left; first_beside = right; second = tree_left; second_beside = tree_right }

-- The two byte lists that a divergence shows: those of the branches, or at the target those that are given.
abbrev pub inputs_of : {D : _} → Divergence D → List ℕ → List ℕ → List ℕ × List ℕ
inputs_of Target first second = (first, second)
inputs_of (Branch branches) first second = inputs branches

-- The pair collides, and stands where P says.
pub record Shows (H : List ℕ → List ℕ) (P : List ℕ → List ℕ → Type 0) (pair : List ℕ × List ℕ) : Type 0 where
  pub collides : Collides H pair
  pub placed : P pair.0 pair.1

-- The evaluations diverge nowhere, and meet at the target as said, or they diverge at branches that collide and stand
-- where P says.
abbrev pub Parts : {D : _} → (List ℕ → List ℕ) → (List ℕ → List ℕ → Type 0) → Type 0 → Divergence D → Type 0
Parts H P meet Target = meet
Parts H P meet (Branch branches) = Shows H P (inputs branches)

-- Both evaluations at the bottom, with these digests.
abbrev pub at_bottom : {D : _} → List ℕ → List ℕ → Climb D
at_bottom first second = record { first = first; second = second; divergence = Target }

-- Two evaluations have one digest at a range.
pub record HaveOneDigest (H : List ℕ → List ℕ) (e f : Evaluation) (range : Range) : Type 0 where
  pub digest : List ℕ
  pub first : cut_over H e range ≡ Some digest
  pub second : cut_over H f range ≡ Some digest

-- The inputs of two evaluations with one target at a range above it, of the recursion over the leaves of all.
pub record DivergesAt (H : List ℕ → List ℕ) (e f : Evaluation) (all : Range) (first second : List ℕ) : Type 0 where
  pub range : Range
  pub part : IsPart all.start all.count range.start range.count
  pub above : IsAbove e.target range
  pub first_input : cut_input H e range ≡ Some first
  pub second_input : cut_input H f range ≡ Some second

-- The evaluations diverge nowhere, and have one digest at the target, which is a range of the recursion, or they diverge at
-- such a range.
abbrev pub IsDivergence : {D : _} → (List ℕ → List ℕ) → Evaluation → Evaluation → Range → Divergence D → Type 0
IsDivergence H e f all p = Parts H (DivergesAt H e f all) ((e.digest ≡ f.digest) × IsPart all.start all.count e.target.start e.target.count) p

-- One of the two evaluations has no digest at a range.
abbrev pub LackDigest : (List ℕ → List ℕ) → Evaluation → Evaluation → Range → Type 0
LackDigest H e f range = (first second : List ℕ) → cut_over H e range ≡ Some first → cut_over H f range ≡ Some second → ⊥

-- They have the climb's digests there, and diverge as it says if the two are one.
pub record IsRangeClimb {D : _} (H : List ℕ → List ℕ) (e f : Evaluation) (range : Range) (climb : Climb D) : Type 0 where
  pub first_is : cut_over H e range ≡ Some climb.first
  pub second_is : cut_over H f range ≡ Some climb.second
  pub diverges : climb.first ≡ climb.second → IsDivergence H e f range climb.divergence
