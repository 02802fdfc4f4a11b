use Rattle.warg_log.proofs.branches.+range_root_by.Given as goal

abbrev pub decreases-range_root_by : goal.decreases-range_root_by
decreases-range_root_by g l = l.range.now.count
