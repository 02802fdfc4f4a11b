use Rattle.std.proofs.Common.{◌-◌}
use Rattle.warg_pages.proofs.descent.+descend.Given as goal

abbrev pub decreases-descend : goal.decreases-descend
decreases-descend g l = 32 - l.depth
