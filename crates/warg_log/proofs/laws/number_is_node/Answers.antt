use Rattle.warg_log.proofs.NodeLemmas.{node_is, node_at}
use Rattle.warg_log.proofs.laws.number_is_node.Goals as goal

pub returns-clause-is : goal.returns-clause-is
returns-clause-is c =
    node_is

pub returns-clause-only : goal.returns-clause-only
returns-clause-only c =
    node_at
