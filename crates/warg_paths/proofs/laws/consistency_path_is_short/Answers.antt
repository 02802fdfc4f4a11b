use Rattle.warg_paths.proofs.UniqueLemmas.{growth_is_short}
use Rattle.warg_paths.proofs.laws.consistency_path_is_short.Goals as goal

pub returns : goal.returns
returns c = growth_is_short
