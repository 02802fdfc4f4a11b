use Rattle.std.proofs.Common.{◌≡◌, take, map}
use Rattle.warg_bundle.proofs.log.proof_bundle.indices.Given as goal

abbrev pub invariant-nodes : goal.invariant-nodes
invariant-nodes g l = l.indices.items ≡ map (λ node. node.0) (take l.node-index l.nodes)
