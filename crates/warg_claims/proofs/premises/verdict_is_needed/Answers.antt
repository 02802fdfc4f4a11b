use Rattle.warg_claims.proofs.PremiseLemmas.{verdict_is_needed}
use Rattle.warg_claims.proofs.premises.verdict_is_needed.Goals as goal

pub returns : goal.returns
returns c = verdict_is_needed
