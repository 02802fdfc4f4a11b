use Rattle.std.proofs.Common.{◌^◌, ◌<◌, take}
use Rattle.std.specs.List.{AllByRecursion}
use Rattle.warg_bundle.proofs.log.proof_bundle.nodes_fit.Given as goal

abbrev pub invariant-nodes : goal.invariant-nodes
invariant-nodes l = AllByRecursion (λ node. node.0 < 2 ^ 32) (take l.node-index l.nodes)
