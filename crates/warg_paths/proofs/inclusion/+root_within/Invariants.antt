use Rattle.std.proofs.Common.{length}
use Rattle.warg_paths.proofs.inclusion.+root_within.Given as goal

abbrev pub decreases-root_within : goal.decreases-root_within
decreases-root_within g l = length l.path.now
