use Rattle.std.proofs.Common.{length}
use Rattle.warg_paths.proofs.consistency.+roots_within.Given as goal

abbrev pub decreases-roots_within : goal.decreases-roots_within
decreases-roots_within g l = length l.path.now
