-- One insertion with the proof of its step.
use Rattle.std.specs.Prelude.{◌≡◌, ℕ, Bool, not, List, Option}
use Rattle.std.specs.FinMap.{insert, contains_key}
use Rattle.warg_map.specs.Sparse.{SparseMap, sparse_root, leaf_at}
use Rattle.warg_map.specs.ProofValue.{proof_value}
use Rattle.warg_map.specs.Peers.{Proves}

-- The new map is the old one with this leaf digest under the bits, and the peers are the proof of these bits there. By them
-- the leaf before leads to the root before, and the leaf after to the root after. The insertion is new where the old map
-- doesn't hold the bits.
pub record IsInserted (H : List ℕ → List ℕ) (old : SparseMap) (bits : List Bool) (leaf : List ℕ) (new : SparseMap) (peers : List (Option (List ℕ))) (is_new : Bool) : Type 0 where
  pub inserted : new ≡ insert old bits leaf
  pub proves : Proves H 256 new bits peers
  pub before : proof_value H peers (leaf_at H old bits) bits ≡ sparse_root H 256 old
  pub after : proof_value H peers leaf bits ≡ sparse_root H 256 new
  pub newness : is_new ≡ not (contains_key old bits)
