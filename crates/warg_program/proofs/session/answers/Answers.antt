use Rattle.std.proofs.Common.{◌∙◌, sym}
use Rattle.warg_program.proofs.MapLemmas.{map_of_none}
use Rattle.warg_program.proofs.session.answers.Goals as goal

pub answer_all-requires : goal.answer_all-requires
answer_all-requires g c = record {
  state = record { log_is = c.default.ensures; map_is = c.default-2.ensures ∙ sym map_of_none };
  no_text = c.new.ensures.bytes;
}
