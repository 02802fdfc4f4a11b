use Rattle.warg_paths.proofs.PremiseLemmas.{index_below_is_needed}
use Rattle.warg_paths.proofs.premises.index_below_is_needed.Goals as goal

pub returns : goal.returns
returns c = index_below_is_needed
