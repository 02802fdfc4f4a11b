use Rattle.warg_paths.proofs.UniqueLemmas.{short}
use Rattle.warg_paths.proofs.laws.path_is_short.Goals as goal

pub returns : goal.returns
returns c = short
