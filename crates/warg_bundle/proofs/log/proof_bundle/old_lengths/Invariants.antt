use Rattle.std.proofs.Common.{◌≡◌, take, map}
use Rattle.warg_bundle.proofs.log.proof_bundle.old_lengths.Given as goal

abbrev pub invariant-proofs : goal.invariant-proofs
invariant-proofs g l = l.lengths.items ≡ map (λ p. p.old_length) (take l.proof-index l.proofs)
