use Rattle.warg_program.proofs.WordLemmas.{found_parts}
use Rattle.warg_program.proofs.words.split_first.Goals as goal

pub returns-in-Some : goal.returns-in-Some
returns-in-Some c = found_parts _ _ _ c.in-Some.ensures
