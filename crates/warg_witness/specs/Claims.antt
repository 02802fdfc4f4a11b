-- What a proof claims of given entries, and when the claim is met: where the evaluation over the data
-- leads to the roots of the trees over the entries.
use Rattle.std.specs.Prelude.{◌≡◌, ℕ, ◌^◌, List, [], length, take, Option, Ok, slice_index_or}
use Rattle.warg_log.specs.Nodes.{height_of, start_of}
use Rattle.warg_log.specs.Tree.{leaves_of, root_of, root_over}
use Rattle.warg_log.specs.Claims.{InclusionClaim}
use Rattle.warg_log.specs.Inclusion.{inclusion}
use Rattle.warg_log.specs.Consistency.{IsConsistent}

-- The claim of a value: the node is a leaf, and its entry has the value's bytes.
pub record IsEntry (value : List ℕ) (node : ℕ) (entries : List (List ℕ)) : Type 0 where
  pub leaf : height_of node ≡ 0
  pub same : slice_index_or entries (start_of node) [] ≡ value

-- The claim of a hash: it is the root of the entries below the node.
abbrev pub IsRootBelow : (List ℕ → List ℕ) → List ℕ → ℕ → List (List ℕ) → Type 0
IsRootBelow H hash node entries = hash ≡ root_over H (leaves_of H entries) (start_of node) (2 ^ height_of node)

-- The claim of consistency: the new entries begin with the old ones.
abbrev pub Begins : List (List ℕ) → List (List ℕ) → Type 0
Begins old new = old ≡ take (length old) new

-- The claim with a digest at a proof's node is met: the entries are as many as the proof's length says, and the proof
-- leads to the root of the tree over the entries.
pub record IsMet (H : List ℕ → List ℕ) (F : ℕ → Option (List ℕ)) (proof : InclusionClaim) (digest : List ℕ) (entries : List (List ℕ)) : Type 0 where
  pub count : length entries ≡ proof.log_length
  pub is : inclusion H F proof digest ≡ Ok (root_of H (leaves_of H entries))

-- The agreement of two digests at a proof's node, over two data, is met: both lead to one root.
pub record IsAgreement (H : List ℕ → List ℕ) (proof : InclusionClaim) (F : ℕ → Option (List ℕ)) (first : List ℕ) (G : ℕ → Option (List ℕ)) (second : List ℕ) : Type 0 where
  pub root : List ℕ
  pub first_is : inclusion H F proof first ≡ Ok root
  pub second_is : inclusion H G proof second ≡ Ok root

-- The claim of consistency from a length m to a length n is met: the entries are as many as these lengths
-- say, and the roots of the trees over them meet the proof.
pub record IsConsistencyMet (H : List ℕ → List ℕ) (F : ℕ → Option (List ℕ)) (m n : ℕ) (old new : List (List ℕ)) : Type 0 where
  pub old_count : length old ≡ m
  pub new_count : length new ≡ n
  pub roots : IsConsistent H F m n (root_of H (leaves_of H old)) (root_of H (leaves_of H new))
