use Rattle.warg_paths.proofs.consistency.+path_over.Given as goal

abbrev pub decreases-path_over : goal.decreases-path_over
decreases-path_over g l = l.range.now.count
