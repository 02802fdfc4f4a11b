use Rattle.std.proofs.Common.{◌≡◌, take, map}
use Rattle.warg_bundle.proofs.log.proof_bundle.leaves.Given as goal

abbrev pub invariant-proofs : goal.invariant-proofs
invariant-proofs g l = l.nodes.items ≡ map (λ p. p.leaf) (take l.proof-index l.proofs)
