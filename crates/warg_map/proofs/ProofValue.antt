-- One more level of a proof's value.
use Rattle.std.proofs.Common.{◌≡◌, ℕ, ◌+◌, ◌-◌, ◌<◌, List, Option}
use Rattle.warg_crypto.specs.Tree.{input_beside}
use Rattle.warg_map.specs.Bits.{bit_at, last_bits}
use Rattle.warg_map.specs.ProofValue.{peer_of, proof_value}
use Rattle.warg_map.proofs.KeyBits.{last_bits-step, length-last_bits}

pub proof_value-more : (H : List ℕ → List ℕ) (peers : List (Option (List ℕ))) (v key : List ℕ) (i : ℕ) → i < 256
    → proof_value H peers v (last_bits key (i + 1)) ≡ H (input_beside (bit_at key (255 - i)) (peer_of H peers i)
    (proof_value H peers v (last_bits key i)))
unfolding proof_value
proof_value-more H peers v key i lt = rw (last_bits-step key i lt, length-last_bits key i)
