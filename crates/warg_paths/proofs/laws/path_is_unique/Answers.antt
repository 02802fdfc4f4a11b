use Rattle.warg_paths.proofs.UniqueLemmas.{unique}
use Rattle.warg_paths.proofs.laws.path_is_unique.Goals as goal

pub returns : goal.returns
returns c = unique
