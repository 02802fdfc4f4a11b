use Rattle.warg_tiles.proofs.path.+strip_groups.Given as goal

abbrev pub decreases-strip_groups : goal.decreases-strip_groups
decreases-strip_groups l = l.groups
