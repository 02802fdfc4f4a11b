use Rattle.warg_map.proofs.node.Node.+count.Given as goal

abbrev pub decreases-count : goal.decreases-count
decreases-count g l = goal.size-count g l
