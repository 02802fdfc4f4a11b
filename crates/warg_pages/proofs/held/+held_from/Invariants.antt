use Rattle.std.proofs.Common.{◌-◌}
use Rattle.warg_pages.proofs.held.+held_from.Given as goal

abbrev pub decreases-held_from : goal.decreases-held_from
decreases-held_from g l = 32 - l.depth
