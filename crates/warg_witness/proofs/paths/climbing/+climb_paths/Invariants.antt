use Rattle.std.proofs.Common.{length}
use Rattle.warg_witness.proofs.paths.climbing.+climb_paths.Given as goal

abbrev pub decreases-climb_paths : goal.decreases-climb_paths
decreases-climb_paths g l = length l.first_path.now
