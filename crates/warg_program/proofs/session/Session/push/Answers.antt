use Rattle.std.proofs.Common.{◌≡◌, ◌∙◌, ◌*◌, ◌^◌, ◌++◌, length, codes, Some, refl, sym, ap}
use Rattle.std.specs.Fmt.{decimal}
use Rattle.warg_program.specs.Words.{hex_bytes_in}
use Rattle.warg_program.specs.Orders.{push, push_in}
use Rattle.warg_program.specs.Text.{answer}
use Rattle.warg_program.proofs.WordLemmas.{last_word}
use Rattle.warg_program.proofs.TextLemmas.{led, spelled, log_length, log_after_push}
use Rattle.warg_program.proofs.session.Session.push.Goals as goal

pub returns-then-length-eq-GREATEST_LENGTH : goal.returns-then-length-eq-GREATEST_LENGTH
returns-then-length-eq-GREATEST_LENGTH g c s at =
    let words : push_in c.args.words ≡ Some (push c.in_ok-entry.entry.items) =
    last_word hex_bytes_in push _ _ c.in_ok-entry.ensures.ok in
    let full : length s.entries ≡ 2 ^ 63 = log_length s _ at.log_is ∙ sym c.length.ensures.value
    ∙ c.if-length-eq-GREATEST_LENGTH.true in
    rw words full

pub returns : goal.returns
unfolding answer
returns g c =
    let entry = c.in_ok-entry.entry.items in
    let log = c.args.self.now.log in
    spelled _ _ _ (push entry) _ (last_word hex_bytes_in push _ _ c.in_ok-entry.ensures.ok)
    (led _ (record c.args.self.now { log = c.push.new.self }) _ (push entry)
    (codes "node " ++ decimal c.in_ok-node.node.0) _ (λ s at. record {
      answer_is = ap (λ n. codes "node " ++ decimal (2 * n)) (log_length s log at.log_is)
          ∙ ap (λ n. codes "node " ++ decimal n) (sym c.in_ok-node.ensures.node);
      room = λ full. c.if-length-eq-GREATEST_LENGTH.false (c.length.ensures.value ∙ sym (log_length s log at.log_is)
          ∙ full);
      log_is = c.in_ok-node.ensures.ok ∙ log_after_push s log entry at.log_is;
      map_is = at.map_is;
      text_is = refl;
    }) c.say_number.ensures)
