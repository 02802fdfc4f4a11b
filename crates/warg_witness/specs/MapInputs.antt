-- The byte lists that the digest function H takes along a key's bits, in the evaluation of a proof and in the
-- plain sparse tree over given insertions.
use Rattle.std.specs.Prelude.{ℕ, zero, suc, Bool, true, false, List, [], ◌∷◌, ◌++◌, length, Option}
use Rattle.std.specs.FinMap.{get}
use Rattle.warg_crypto.specs.Tree.{leaf_input, leaf_digest, branch_input, input_beside}
use Rattle.warg_map.specs.Sparse.{root_of_levels, map_of}
use Rattle.warg_map.specs.Last.{last_under}
use Rattle.warg_map.specs.ProofValue.{peer_of, proof_value}
use Rattle.warg_witness.specs.MapClaims.{value_in}

-- The evaluation's input at a branch, where a bit and those below it are left of the key's bits and x is the leaf
-- digest: the value below is on the side of the bit, and the peer on the other.
abbrev pub fork_input : (List ℕ → List ℕ) → List (Option (List ℕ)) → List ℕ → Bool → List Bool → List ℕ
fork_input H peers x bit below = input_beside bit (peer_of H peers (length below)) (proof_value H peers x below)

-- The evaluation's input where these bits are left: at the leaf the byte 00 and the value.
abbrev pub path_input : (List ℕ → List ℕ) → List (Option (List ℕ)) → List ℕ → List Bool → List ℕ
path_input H peers value [] = leaf_input value
path_input H peers value (bit ∷ below) = fork_input H peers (leaf_digest H value) bit below

-- The plain input at a bit prefix with so many levels below it: at a whole key digest the byte 00 and the value
-- of the last insertion under it, or no value; above, that of the branch over the sparse roots of what is held
-- after the prefix and 0, and after the prefix and 1.
abbrev pub plain_input_at : (List ℕ → List ℕ) → List (List ℕ × List ℕ) → List Bool → ℕ → List ℕ
plain_input_at H insertions prefix zero = leaf_input (value_in (last_under H prefix insertions))
plain_input_at H insertions prefix (suc k) =
    branch_input (root_of_levels H k (λ bits. get (map_of H insertions) (prefix ++ false ∷ bits))) (root_of_levels H k (λ bits. get (map_of H insertions) (prefix ++ true ∷ bits)))
