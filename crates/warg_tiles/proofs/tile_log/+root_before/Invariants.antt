use Rattle.std.proofs.Common.{length}
use Rattle.warg_tiles.proofs.tile_log.+root_before.Given as goal

abbrev pub decreases-root_before : goal.decreases-root_before
decreases-root_before g l = length l.digests.now
