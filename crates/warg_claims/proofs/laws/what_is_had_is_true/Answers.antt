use Rattle.warg_claims.proofs.HasLemmas.{had_is_true}
use Rattle.warg_claims.proofs.laws.what_is_had_is_true.Goals as goal

pub returns : goal.returns
returns c = had_is_true
