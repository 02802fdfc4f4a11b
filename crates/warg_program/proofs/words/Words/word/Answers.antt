use Rattle.std.proofs.Common.{arith}
use Rattle.std.proofs.lemmas.Grind.{common_steps}
use Rattle.warg_program.proofs.WordLemmas.{words_next}
use Rattle.warg_program.proofs.words.Words.word.Goals as goal

pub returns-clause-ok : goal.returns-clause-ok
returns-clause-ok c =
    let next = words_next _ _ _ c.split_first.ensures in
    grind (arith, common_steps)
