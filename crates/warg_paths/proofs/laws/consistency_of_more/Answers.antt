use Rattle.warg_paths.proofs.MakeLemmas.{consistency_front, consistency_rest}
use Rattle.warg_paths.proofs.laws.consistency_of_more.Goals as goal

pub returns-clause-front : goal.returns-clause-front
returns-clause-front c = consistency_front

pub returns-clause-rest : goal.returns-clause-rest
returns-clause-rest c = consistency_rest
