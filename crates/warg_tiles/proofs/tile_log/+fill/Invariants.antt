use Rattle.warg_tiles.proofs.tile_log.+fill.Given as goal

abbrev pub decreases-fill : goal.decreases-fill
decreases-fill g l = l.count
