-- Lemmas for the proofs of the crates above, over public definitions alone.
use Rattle.std.proofs.Common.{◌≡◌, ℕ, ◌+◌, ◌-◌, ◌<◌, ◌≤◌, Bool, true, false, List, [], ◌∷◌, ◌++◌, ◌∙◌, length, length-append, Option, Some, unwrap_or, refl, ap}
use Rattle.std.specs.Option.{option_map}
use Rattle.std.specs.Bool.{Decides}
use Rattle.std.specs.FinMap.{get, insert, empty}
use Rattle.warg_crypto.specs.Digests.{IsDigest}
use Rattle.warg_crypto.specs.EmptyTrees.{empty_root}
use Rattle.warg_map.specs.Bits.{bit_at, last_bits, key_bits}
use Rattle.warg_crypto.specs.Tree.{leaf_digest, input_beside, branch_input}
use Rattle.warg_map.specs.Sparse.{SparseMap, leaf_at, root_of_levels, sparse_root, map_of}
use Rattle.warg_map.specs.Last.{same_bits, last_under}
use Rattle.warg_map.specs.ProofValue.{peer_of, proof_value}
use Rattle.warg_map.specs.Peers.{Proves, ProvesAbsent, ProvesEmpty, IsBeside}
use Rattle.warg_map.specs.Messages.{Peers, same_peers}
use Rattle.warg_map.proofs.ProofEquality as equal
use Rattle.warg_map.proofs.KeyBits as keys
use Rattle.warg_map.proofs.SparseTree as tree
use Rattle.warg_map.proofs.DigestBits as bits
use Rattle.warg_map.proofs.LastInserted as last
use Rattle.warg_map.proofs.HonestProofs as honest

-- the last bits of a digest are as many as are asked for, and a key has 256
pub length-last_bits : (key : List ℕ) (n : ℕ) → length (last_bits key n) ≡ n
length-last_bits = keys.length-last_bits

pub all_bits : (H : List ℕ → List ℕ) (key : List ℕ) → length (key_bits H key) ≡ 256
all_bits H key = keys.length-last_bits (H key) 256

-- no bit is left
pub last_bits-none : (key : List ℕ) → last_bits key 0 ≡ []
last_bits-none key = keys.bits_from-none key 256

-- one bit more, from the bottom
pub last_bits-more : (key : List ℕ) (n : ℕ) → n < 256 → last_bits key (n + 1) ≡ bit_at key (255 - n) ∷ last_bits key n
last_bits-more = keys.last_bits-step

-- bits are equal to themselves, by the test
pub same_bits-itself : (q : List Bool) → same_bits q q ≡ true
same_bits-itself = tree.tied_itself_bits

-- bits that the test calls the same are the same
pub same_bits-true : (q p : List Bool) → same_bits q p ≡ true → q ≡ p
same_bits-true = tree.tied

-- keys of the same bits have the same digest
pub same_digest : (H : List ℕ → List ℕ) (key other : List ℕ) → IsDigest (H key) → IsDigest (H other) → key_bits H key
    ≡ key_bits H other → H key ≡ H other
same_digest H key other = bits.same_bits_same_digest

-- a map of insertions holds the leaf digest of the last one under the bits
pub last_held : (H : List ℕ → List ℕ) (bits : List Bool) (insertions : List (List ℕ × List ℕ))
    → get (map_of H insertions) bits ≡ option_map (λ e. leaf_digest H e.1) (last_under H bits insertions)
last_held = last.get-map_of

-- the proof of held bits leads to the plain root at each prefix of them
pub root_at_prefix : (H : List ℕ → List ℕ) (m : SparseMap) (prefix rest : List Bool) (peers : List (Option (List ℕ)))
    (x : List ℕ) → length prefix + length rest ≡ 256 → length peers ≤ 256 → Proves H 256 m (prefix ++ rest) peers
    → get m (prefix ++ rest) ≡ Some x → proof_value H peers x rest ≡ root_of_levels H (length rest)
    (λ q. get m (prefix ++ q))
root_at_prefix H m prefix rest peers x n few p held = honest.honest_prefix H m prefix rest peers
    (honest.honest_held (length-append prefix rest ∙ n) p) (ap (λ o. unwrap_or o (empty_root H 0)) held)

-- from any leaf digest the proofs of a map lead to the root of the map that holds it
pub replaced_root : (H : List ℕ → List ℕ) (m : SparseMap) (bits : List Bool) (peers : List (Option (List ℕ)))
    (x : List ℕ) → length bits ≡ 256 → length peers ≤ 256 → Proves H 256 m bits peers → proof_value H peers x bits
    ≡ sparse_root H 256 (insert m bits x)
replaced_root H m bits peers x n few p = honest.honest_replaced H m bits peers x n
    (honest.honest_held n p)

pub absent_replaced_root : (H : List ℕ → List ℕ) (m : SparseMap) (bits : List Bool) (peers : List (Option (List ℕ)))
    (x : List ℕ) → length bits ≡ 256 → length peers ≤ 256 → ProvesAbsent H m bits peers → proof_value H peers x bits
    ≡ sparse_root H 256 (insert m bits x)
absent_replaced_root H m bits peers x n few p = honest.honest_replaced H m bits peers x n
    (honest.honest_absent n p)

-- from an empty leaf the proof of an absence leads to the root
pub absent_root : (H : List ℕ → List ℕ) (m : SparseMap) (bits : List Bool) (peers : List (Option (List ℕ)))
    → length bits ≡ 256 → length peers ≤ 256 → ProvesAbsent H m bits peers → proof_value H peers (empty_root H 0) bits
    ≡ sparse_root H 256 m
absent_root H m bits peers n few p = honest.honest_root H m bits peers n (honest.honest_absent n p)
    (honest.leaf_absent (get m bits) _ p.absent)

-- proofs are compared by their peers
pub peers_decide : (ps qs : Peers) → Decides (same_peers ps qs) (ps ≡ qs)
peers_decide = equal.peers_decide

-- where the leaf digest of bits is that of an empty leaf, the proof of that leads from it to the root
pub empty_root_held : (H : List ℕ → List ℕ) (m : SparseMap) (bits : List Bool) (peers : Peers) → length bits ≡ 256
    → ProvesEmpty H m bits peers → leaf_at H m bits ≡ empty_root H 0 → proof_value H peers (empty_root H 0) bits
    ≡ sparse_root H 256 m
empty_root_held H m bits peers n p = honest.honest_root H m bits peers n
    (honest.honest_empty H m bits peers (get m bits) n p)

-- the peers of the proof of a key, held or not, are what stands beside its bits
pub key_beside : (H : List ℕ → List ℕ) (m : SparseMap) (key : List ℕ) (peers : Peers)
    → ProvesEmpty H m (key_bits H key) peers → IsBeside H peers (get m) (key_bits H key)
key_beside H m key peers p = honest.honest_empty H m (key_bits H key) peers (get m (key_bits H key)) (all_bits H key) p

-- so they lead from the leaf digest of the bits to the root
pub beside_root : (H : List ℕ → List ℕ) (m : SparseMap) (bits : List Bool) (peers : Peers) → length bits ≡ 256
    → IsBeside H peers (get m) bits → proof_value H peers (leaf_at H m bits) bits ≡ sparse_root H 256 m
beside_root H m bits peers n p = honest.honest_root H m bits peers n p refl

-- by the plain inputs on the way
pub beside_input : (H : List ℕ → List ℕ) (m : SparseMap) (prefix below : List Bool) (b : Bool) (peers : Peers)
    → IsBeside H peers (get m) (prefix ++ b ∷ below) → input_beside b (peer_of H peers (length below))
    (proof_value H peers (leaf_at H m (prefix ++ b ∷ below)) below) ≡ branch_input (root_of_levels H (length below)
    (λ q. get m (prefix ++ false ∷ q))) (root_of_levels H (length below) (λ q. get m (prefix ++ true ∷ q)))
beside_input H m prefix below b peers p = honest.honest_input H m prefix below b peers p refl

-- and from any leaf digest to the root of the map that holds it
pub beside_replaced : (H : List ℕ → List ℕ) (m : SparseMap) (bits : List Bool) (peers : Peers) (x : List ℕ)
    → length bits ≡ 256 → IsBeside H peers (get m) bits → proof_value H peers x bits
    ≡ sparse_root H 256 (insert m bits x)
beside_replaced = honest.honest_replaced

-- the root of the empty map
pub empty_map_root : (H : List ℕ → List ℕ) → sparse_root H 256 empty ≡ empty_root H 256
empty_map_root H = tree.sparse_root-empty H 256
