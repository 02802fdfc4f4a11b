use Rattle.std.proofs.Common.{◌-◌}
use Rattle.warg_map.proofs.grown.+grown.Given as goal

abbrev pub decreases-grown : goal.decreases-grown
decreases-grown g l = 256 - l.depth
