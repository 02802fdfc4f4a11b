use Rattle.std.proofs.Common.{◌-◌}
use Rattle.warg_tiles.proofs.tile_log.+check_tiles.Given as goal

abbrev pub decreases-check_tiles : goal.decreases-check_tiles
decreases-check_tiles g l = 8 - l.level
