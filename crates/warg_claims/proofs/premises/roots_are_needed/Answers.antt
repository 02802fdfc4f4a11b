use Rattle.warg_claims.proofs.PremiseLemmas.{roots_are_needed}
use Rattle.warg_claims.proofs.premises.roots_are_needed.Goals as goal

pub returns : goal.returns
returns c = roots_are_needed
