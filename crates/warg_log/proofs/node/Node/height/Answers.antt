use Rattle.std.proofs.Common.{arith, sym, ◌∙◌}
use Rattle.warg_log.proofs.NodeLemmas.{node_is, height_of_trailing_ones}
use Rattle.warg_log.proofs.node.Node.height.Goals as goal

pub returns-clause-node : goal.returns-clause-node
returns-clause-node c = rw (c.trailing_ones.ensures ∙ sym (height_of_trailing_ones c.args.self.now.0 (omega arith)))
    (node_is c.args.self.now.0)
