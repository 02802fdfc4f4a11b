use Rattle.warg_paths.proofs.MakeLemmas.{inclusion_front, inclusion_rest}
use Rattle.warg_paths.proofs.laws.inclusion_of_more.Goals as goal

pub returns-clause-front : goal.returns-clause-front
returns-clause-front c = inclusion_front

pub returns-clause-rest : goal.returns-clause-rest
returns-clause-rest c = inclusion_rest
