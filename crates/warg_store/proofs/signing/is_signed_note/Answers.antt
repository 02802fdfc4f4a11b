use Rattle.std.proofs.Common.{List, ℕ, get_or, sym, ap, ◌∙◌}
use Rattle.std.proofs.lemmas.Bool.{false≢true, eqb-true, eq-eqb}
use Rattle.warg_folder.proofs.ForCallers.{apart}
use Rattle.warg_store.proofs.SignLemmas.{note_from, note_back}
use Rattle.warg_store.proofs.signing.is_signed_note.Goals as goal

pub returns-in_default : goal.returns-in_default
returns-in_default c = (
  (λ yes. absurd (false≢true yes)),
  (λ is. absurd (apart (sym (note_back c.args.text.now c.args.note.now is).0 ∙ c.in_default.ensures.cases))),
)

pub returns-then-rest-gt1 : goal.returns-then-rest-gt1
returns-then-rest-gt1 c = (
  (λ yes. note_from c.args.text.now c.args.note.now c.in-Some.rest.now c.in-Some.ensures.cases.0
      c.in-Some.ensures.cases.1 c.if-rest-gt1.true (eqb-true (get_or c.in-Some.rest.now 0 0) 10 yes)),
  (λ is. eq-eqb (get_or c.in-Some.rest.now 0 0) 10 (ap (λ (l : List ℕ). get_or l 0 0) c.in-Some.ensures.cases.1
      ∙ (note_back c.args.text.now c.args.note.now is).2)),
)
