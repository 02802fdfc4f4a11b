use Rattle.warg_claims.proofs.PremiseLemmas.{untruth_is_needed}
use Rattle.warg_claims.proofs.premises.untruth_is_needed.Goals as goal

pub returns : goal.returns
returns c = untruth_is_needed
