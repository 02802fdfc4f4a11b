use Rattle.warg_log.proofs.ForCallers as callers
use Rattle.warg_log.proofs.laws.front_is_greatest.Goals as goal

pub returns : goal.returns
returns c = callers.front_is_greatest
