-- Where the two byte lists of a collision stand that a path shows. The digests of a path are given from the topmost
-- down, as the recursion over the leaves meets them.
use Rattle.std.specs.Prelude.{◌≡◌, ℕ, List, [], ◌∷◌, length, reverse, Option, Some}
use Rattle.warg_crypto.specs.Tree.{leaf_input, leaf_digest}
use Rattle.warg_paths.specs.Ways.{IsOnWay, turn_input}
use Rattle.warg_witness.specs.Inputs.{plain_input}

-- The evaluation's input at a range of n leaves, of which leaf m has the value v: at the leaf, where no digests are
-- left, the byte 00 and v.
abbrev pub record_input : (List ℕ → List ℕ) → List ℕ → ℕ → ℕ → List (List ℕ) → Option (List ℕ)
record_input H v m n [] = Some (leaf_input v)
record_input H v m n (top ∷ below) = turn_input H (leaf_digest H v) m n top below

-- For a record: the evaluation's input (first) and the plain input (second) at one range on the way to the leaf.
pub record IsRecordPlaced (H : List ℕ → List ℕ) (index : ℕ) (path : List (List ℕ)) (value : List ℕ) (entries : List (List ℕ)) (first second : List ℕ) : Type 0 where
  pub leaf : ℕ
  pub from : ℕ
  pub count : ℕ
  pub digests : List (List ℕ)
  pub on_way : IsOnWay index 0 (length entries) (reverse path) leaf from count digests
  pub evaluation : record_input H value leaf count digests ≡ Some first
  pub plain : second ≡ plain_input H entries from count

-- For an agreement of two paths of one place of n entries, each with its value: both evaluations' inputs at one range on the
-- way to the leaf, in the order given.
pub record IsRecordAgreementPlaced (H : List ℕ → List ℕ) (index n : ℕ) (one other : List (List ℕ) × List ℕ) (first second : List ℕ) : Type 0 where
  pub leaf : ℕ
  pub from : ℕ
  pub count : ℕ
  pub digests : List (List ℕ)
  pub other_digests : List (List ℕ)
  pub on_way : IsOnWay index 0 n (reverse one.0) leaf from count digests
  pub other_on_way : IsOnWay index 0 n (reverse other.0) leaf from count other_digests
  pub first_evaluation : record_input H one.1 leaf count digests ≡ Some first
  pub second_evaluation : record_input H other.1 leaf count other_digests ≡ Some second
