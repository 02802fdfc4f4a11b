use Rattle.warg_claims.proofs.PremiseLemmas.{hashes_are_needed}
use Rattle.warg_claims.proofs.premises.hashes_are_needed.Goals as goal

pub returns : goal.returns
returns c = hashes_are_needed
