use Rattle.std.proofs.Common.{arith}
use Rattle.warg_log.specs.Nodes.{height_of, height_within}
use Rattle.warg_log.proofs.premises.number_is_node.Goals as goal

pub returns : goal.returns
unfolding height_of height_within
returns c = λ law. omega (arith, (law 0 1 0).0)
