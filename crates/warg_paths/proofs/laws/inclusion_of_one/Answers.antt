use Rattle.warg_paths.proofs.MakeLemmas.{inclusion_one}
use Rattle.warg_paths.proofs.laws.inclusion_of_one.Goals as goal

pub returns : goal.returns
returns c = inclusion_one
