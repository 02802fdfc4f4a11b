-- The value of a proof: the root to which its peers lead from a leaf.
use Rattle.std.specs.Prelude.{ℕ, ◌-◌, nat_lt, Bool, List, [], ◌∷◌, length, Option, None, unwrap_or, slice_index_or, if◌then◌else◌}
use Rattle.warg_crypto.specs.EmptyTrees.{empty_root}
use Rattle.warg_crypto.specs.Tree.{input_beside}

-- The peer of height i: peers run from the bottom to the top, those that are missing at the bottom count as None, and None stands for the empty tree of that height.
abbrev pub peer_of : (List ℕ → List ℕ) → List (Option (List ℕ)) → ℕ → List ℕ
peer_of H peers i = if nat_lt i (256 - length peers) then empty_root H i else unwrap_or (slice_index_or peers (i - (256 - length peers)) None) (empty_root H i)

-- The value at the top of the last bits of a key, from the leaf digest x: below no bit it is x itself, and at each bit the branch of the value below, on the side of the bit, and the peer of that height.
unfoldable pub proof_value : (List ℕ → List ℕ) → List (Option (List ℕ)) → List ℕ → List Bool → List ℕ
proof_value H peers x [] = x
proof_value H peers x (b ∷ bits) = H (input_beside b (peer_of H peers (length bits)) (proof_value H peers x bits))
