use Rattle.warg_claims.proofs.PremiseLemmas.{some_collide}
use Rattle.warg_claims.proofs.premises.some_collide_anywhere.Goals as goal

pub returns : goal.returns
returns c = some_collide
