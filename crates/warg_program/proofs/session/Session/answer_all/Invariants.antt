use Rattle.std.proofs.Common.{◌≤◌, ◌+◌, length}
use Rattle.warg_program.proofs.TextLemmas.{Stands}
use Rattle.warg_program.proofs.session.Session.answer_all.Given as goal

abbrev pub invariant-loop-rest : goal.invariant-loop-rest
invariant-loop-rest g l = record {
  stands : Stands l.input l.rest l.self l.number;
  few : l.number + length l.rest ≤ length l.input;
}

abbrev pub decreases-loop-rest : goal.decreases-loop-rest
decreases-loop-rest g l = length l.rest
