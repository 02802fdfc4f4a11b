use Rattle.std.proofs.Common.{length}
use Rattle.warg_tiles.proofs.tile_log.+push_digests.Given as goal

abbrev pub decreases-push_digests : goal.decreases-push_digests
decreases-push_digests g l = length l.tiles.now
