-- What a path claims of given entries, and when the claim is met: where the path leads to the root of the tree over
-- the entries. And when two paths agree: where they lead to one root.
use Rattle.std.specs.Prelude.{◌≡◌, ℕ, List, [], length, Some, slice_index_or}
use Rattle.warg_crypto.specs.Tree.{leaf_digest}
use Rattle.warg_log.specs.Tree.{leaves_of, root_of}
use Rattle.warg_paths.specs.Paths.{inclusion_root, consistency_roots}

-- The claim of a record: the entry at the index, from 0, has the value's bytes.
abbrev pub IsRecord : ℕ → List ℕ → List (List ℕ) → Type 0
IsRecord index value entries = slice_index_or entries index [] ≡ value

-- The claim of a record is met: from the value's leaf digest, the path leads to the root of the tree over the
-- entries.
abbrev pub IsRecordMet : (List ℕ → List ℕ) → ℕ → List (List ℕ) → List ℕ → List (List ℕ) → Type 0
IsRecordMet H index path value entries = inclusion_root H index (length entries) (leaf_digest H value) path ≡ Some (root_of H (leaves_of H entries))

-- The claim that the new entries begin with the old ones is met: from the root of the tree over the old entries, the
-- path leads to this root and to that of the tree over the new ones.
abbrev pub IsTreeMet : (List ℕ → List ℕ) → List (List ℕ) → List (List ℕ) → List (List ℕ) → Type 0
IsTreeMet H path old new = consistency_roots H (length old) (length new) (root_of H (leaves_of H old)) path ≡ Some (root_of H (leaves_of H old), root_of H (leaves_of H new))

-- The agreement of two paths of one place of n entries, each with a value, is met: both lead to one root.
pub record IsRecordAgreement (H : List ℕ → List ℕ) (index n : ℕ) (first_path : List (List ℕ)) (first : List ℕ) (second_path : List (List ℕ)) (second : List ℕ) : Type 0 where
  pub root : List ℕ
  pub first_is : inclusion_root H index n (leaf_digest H first) first_path ≡ Some root
  pub second_is : inclusion_root H index n (leaf_digest H second) second_path ≡ Some root
