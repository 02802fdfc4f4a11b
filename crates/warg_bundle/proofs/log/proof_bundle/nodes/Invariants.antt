use Rattle.std.proofs.Common.{◌≡◌, take, map}
use Rattle.warg_bundle.proofs.log.proof_bundle.nodes.Given as goal

abbrev pub invariant-indices : goal.invariant-indices
invariant-indices g l = l.nodes.items ≡ map (λ n. record { 0 = n }) (take l.index-index l.indices)
