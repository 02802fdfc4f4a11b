use Rattle.std.proofs.Common.{◌≡◌}
use Rattle.warg_crypto.specs.EmptyTrees.{empty_root}
use Rattle.warg_map.specs.Bits.{last_bits}
use Rattle.warg_map.specs.ProofValue.{proof_value}
use Rattle.warg_map.proofs.proof.Proof.root_from.Given as goal

abbrev pub invariant-loop-height : goal.invariant-loop-height
invariant-loop-height g l =
    (l.hash ≡ proof_value g.D.SupportedDigest.digest l.self l.fn.leaf (last_bits l.key l.height))
    × (l.empty ≡ empty_root g.D.SupportedDigest.digest l.height)
