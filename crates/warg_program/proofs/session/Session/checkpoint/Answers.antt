use Rattle.std.proofs.Common.{◌≡◌, ◌∙◌, Some, refl, string_bytes}
use Rattle.warg_program.specs.Orders.{log, log_in}
use Rattle.warg_program.proofs.TextLemmas.{log_shown}
use Rattle.warg_program.proofs.session.Session.checkpoint.Goals as goal

pub returns : goal.returns
returns g c s at =
    let spelled : log_in c.args.words ≡ Some log = rw c.in_ok-end.ensures.ok refl in
    rw spelled (record {
      is_good = refl;
      room = λ full. full;
      log_is = at.log_is;
      map_is = at.map_is;
      text_is = λ number. c.in_ok-writeln.ensures.bytes
          ∙ log_shown (string_bytes c.args.self.now.text) s c.args.self.now.log _ _ at.log_is
          c.length-length.ensures.value c.root-root.ensures;
    })
