use Rattle.std.proofs.Common.{◌≡◌, Some, refl, arith}
use Rattle.std.proofs.lemmas.Grind.{common_steps}
use Rattle.warg_program.specs.Orders.{map, map_in}
use Rattle.warg_program.specs.Text.{answer}
use Rattle.warg_program.proofs.session.Session.map_root.Goals as goal

pub returns : goal.returns
unfolding answer
returns g c s at =
    let spelled : map_in c.args.words ≡ Some map = rw c.in_ok-end.ensures.ok refl in
    rw spelled (record {
      is_good = refl;
      room = λ full. full;
      log_is = at.log_is;
      map_is = at.map_is;
      text_is = λ number. grind (arith, common_steps);
    })
