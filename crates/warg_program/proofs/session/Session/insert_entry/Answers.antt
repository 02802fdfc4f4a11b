use Rattle.std.proofs.Common.{◌∙◌, ◌++◌, codes, refl, sym, ap}
use Rattle.std.specs.Fmt.{decimal}
use Rattle.std.specs.FinMap as finite
use Rattle.warg_program.specs.Orders.{insert}
use Rattle.warg_program.specs.Text.{answer}
use Rattle.warg_program.proofs.MapLemmas.{map_after_insert, answered_not_failed}
use Rattle.warg_program.proofs.TextLemmas.{led}
use Rattle.warg_program.proofs.session.Session.insert_entry.Goals as goal

pub returns : goal.returns
unfolding answer
returns g c =
    led _ (record c.args.self.now { map = c.in_ok-self.field-0 }) _ (insert c.args.key.items c.args.value.items)
    (codes "len " ++ decimal c.len-len.result) _ (λ s at.
    let map_is = c.in_ok-self.ensures.ok
    ∙ rw at.map_is (sym (map_after_insert s c.args.key.items c.args.value.items)) in
    record {
      answer_is = ap (λ m. codes "len " ++ decimal (finite.len m)) (sym map_is) ∙ ap (λ n. codes "len " ++ decimal n)
          (sym c.len-len.ensures);
      room = λ full. answered_not_failed _ _ (c.in_ok-self.ensures.full.1 (rw (← at.map_is) at full));
      log_is = at.log_is;
      map_is = map_is;
      text_is = refl;
    }) c.say_number.ensures
