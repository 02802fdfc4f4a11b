use Rattle.std.proofs.Common.{length}
use Rattle.warg_tiles.proofs.root.+root_over.Given as goal

abbrev pub decreases-root_over : goal.decreases-root_over
decreases-root_over g l = length l.digests.now
