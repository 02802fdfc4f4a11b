-- Where the two byte lists of a collision stand.
use Rattle.std.specs.Prelude.{◌≡◌, ℕ, ◌^◌, ◌⊎◌, List, length, Option, Some, Contains}
use Rattle.warg_log.specs.Ranges.{leaves_from, range_of}
use Rattle.warg_log.specs.Nodes.{height_of, start_of, balanced_roots}
use Rattle.warg_log.specs.Cut.{with_target, IsFull}
use Rattle.warg_witness.specs.Ranges.{IsPart, IsAround}
use Rattle.warg_witness.specs.Inputs.{plain_input, cut_input, value_input, old_input}

-- For a value at a node: the evaluation's input (first) and the plain input (second) at one range of the
-- recursion over the entries, around the node.
pub record IsValuePlaced (H : List ℕ → List ℕ) (F : ℕ → Option (List ℕ)) (value : List ℕ) (node : ℕ) (entries : List (List ℕ)) (first second : List ℕ) : Type 0 where
  pub from : ℕ
  pub count : ℕ
  pub part : IsPart 0 (length entries) from count
  pub around : IsAround (range_of node) (leaves_from from count)
  pub evaluation : value_input H F (range_of node) value (leaves_from from count) ≡ Some first
  pub plain : second ≡ plain_input H entries from count

-- For a hash at a node: the same, at a range that is not the node's own.
pub record IsHashPlaced (H : List ℕ → List ℕ) (F : ℕ → Option (List ℕ)) (hash : List ℕ) (node : ℕ) (entries : List (List ℕ)) (first second : List ℕ) : Type 0 where
  pub from : ℕ
  pub count : ℕ
  pub part : IsPart 0 (length entries) from count
  pub around : IsAround (range_of node) (leaves_from from count)
  pub other : from ≡ start_of node → count ≡ 2 ^ height_of node → ⊥
  pub evaluation : cut_input H (with_target F (range_of node) hash) (leaves_from from count) ≡ Some first
  pub plain : second ≡ plain_input H entries from count

-- For an agreement on a node at length n, each over its data and with its value: the two evaluations' inputs at one range, in
-- the order given.
pub record IsAgreementPlaced (H : List ℕ → List ℕ) (one other : (ℕ → Option (List ℕ)) × List ℕ) (node n : ℕ) (first second : List ℕ) : Type 0 where
  pub from : ℕ
  pub count : ℕ
  pub part : IsPart 0 n from count
  pub around : IsAround (range_of node) (leaves_from from count)
  pub first_evaluation : value_input H one.0 (range_of node) one.1 (leaves_from from count) ≡ Some first
  pub second_evaluation : value_input H other.0 (range_of node) other.1 (leaves_from from count) ≡ Some second

-- For consistency, on the old side: the old root's input (first) and the old plain input (second) at one
-- range, which isn't of a power of two of leaves.
pub record IsPlacedInOld (H : List ℕ → List ℕ) (F : ℕ → Option (List ℕ)) (old : List (List ℕ)) (first second : List ℕ) : Type 0 where
  pub from : ℕ
  pub count : ℕ
  pub part : IsPart 0 (length old) from count
  pub split : IsFull count → ⊥
  pub evaluation : old_input H F (leaves_from from count) ≡ Some first
  pub plain : second ≡ plain_input H old from count

-- On the new side: the evaluation's input (first), with a balanced root of the old length m and the digest
-- that is held for it, and the new plain input (second), at one range around that root and not its own.
pub record IsPlacedInNew (H : List ℕ → List ℕ) (F : ℕ → Option (List ℕ)) (m : ℕ) (new : List (List ℕ)) (first second : List ℕ) : Type 0 where
  pub root : ℕ
  pub digest : List ℕ
  pub is_root : Contains (balanced_roots m) root
  pub held : F root ≡ Some digest
  pub from : ℕ
  pub count : ℕ
  pub part : IsPart 0 (length new) from count
  pub around : IsAround (range_of root) (leaves_from from count)
  pub other : from ≡ start_of root → count ≡ 2 ^ height_of root → ⊥
  pub evaluation : cut_input H (with_target F (range_of root) digest) (leaves_from from count) ≡ Some first
  pub plain : second ≡ plain_input H new from count

-- In both trees: the old plain input (first) and the new one (second) at one range of both.
pub record IsPlacedInBoth (H : List ℕ → List ℕ) (old new : List (List ℕ)) (first second : List ℕ) : Type 0 where
  pub from : ℕ
  pub count : ℕ
  pub old_part : IsPart 0 (length old) from count
  pub new_part : IsPart 0 (length new) from count
  pub old_plain : first ≡ plain_input H old from count
  pub new_plain : second ≡ plain_input H new from count

-- For consistency from the old entries to the new ones: one of the three.
abbrev pub IsConsistencyPlaced : (List ℕ → List ℕ) → (ℕ → Option (List ℕ)) → List (List ℕ) → List (List ℕ) → List ℕ → List ℕ → Type 0
IsConsistencyPlaced H F old new first second =
    IsPlacedInOld H F old first second ⊎ (IsPlacedInNew H F (length old) new first second ⊎ IsPlacedInBoth H old new first second)
