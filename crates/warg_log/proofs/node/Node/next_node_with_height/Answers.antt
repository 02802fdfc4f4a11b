use Rattle.warg_log.proofs.NodeLemmas.{next_at}
use Rattle.warg_log.proofs.node.Node.next_node_with_height.Goals as goal

pub returns : goal.returns
returns c =
    let at = next_at _ _ _ _ c.requires.most c.rightmost_descendent.ensures c.first_node_with_height.ensures in
    record { height = at.0; start = at.1 }
