use Rattle.warg_pages.proofs.root_pair.+roots_of_range.Given as goal

abbrev pub decreases-roots_of_range : goal.decreases-roots_of_range
decreases-roots_of_range g l = l.levels
