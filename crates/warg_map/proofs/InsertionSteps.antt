-- The proof of a key in the map after an insertion, as the proof of the step.
use Rattle.std.proofs.Common.{◌≡◌, ℕ, Bool, List, length, not, nat_lt, arith}
use Rattle.std.proofs.lemmas.Bool.Decides.{nat_tests}
use Rattle.std.specs.FinMap.{insert, contains_key, len, len-insert}
use Rattle.warg_map.specs.Sparse.{SparseMap, sparse_root, leaf_at}
use Rattle.warg_map.specs.Peers.{Proves}
use Rattle.warg_map.specs.ProofValue.{proof_value}
use Rattle.warg_map.proofs.SparseTree.{bits_total, get-insert_same, get-insert_other}
use Rattle.warg_map.proofs.HonestProofs.{honest_held, beside_alike, honest_root}

-- from the leaf before, the proof leads to the root before
pub root_before : {H bits peers : _} (m : SparseMap) (x : List ℕ) → length bits ≡ 256
    → Proves H 256 (insert m bits x) bits peers → proof_value H peers (leaf_at H m bits) bits ≡ sparse_root H 256 m
root_before {H} {bits} {peers} m x n p = grind (arith, honest_root, beside_alike, get-insert_other, honest_held n p)

-- and from the leaf after to the root after
pub root_after : {H bits peers : _} (m : SparseMap) (x : List ℕ) → length bits ≡ 256
    → Proves H 256 (insert m bits x) bits peers → proof_value H peers x bits ≡ sparse_root H 256 (insert m bits x)
root_after {H} {bits} {peers} m x n p = grind (arith, honest_root, honest_held n p, get-insert_same m bits x)

-- a new key makes the map longer
pub grows : (m n : SparseMap) (bits : List Bool) (v : List ℕ) → n ≡ insert m bits v → nat_lt (len m) (len n)
    ≡ not (contains_key m bits)
grows m n bits v e = rw (e, len-insert bits_total m bits v) (grind (arith, nat_tests))
