use Rattle.warg_paths.proofs.UniqueGrowthLemmas.{unique}
use Rattle.warg_paths.proofs.laws.consistency_path_is_unique.Goals as goal

pub returns : goal.returns
returns c = unique
