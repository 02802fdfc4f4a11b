use Rattle.warg_log.proofs.leaf_range.+stored_root.Given as goal

abbrev pub decreases-stored_root : goal.decreases-stored_root
decreases-stored_root g l = l.range.now.count
