use Rattle.warg_pages.proofs.root.+root_of_range.Given as goal

abbrev pub decreases-root_of_range : goal.decreases-root_of_range
decreases-root_of_range g l = l.levels
