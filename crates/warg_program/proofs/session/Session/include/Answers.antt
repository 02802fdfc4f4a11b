use Rattle.warg_program.specs.Words.{hex_bytes_in}
use Rattle.warg_program.specs.Orders.{include}
use Rattle.warg_program.proofs.WordLemmas.{last_word}
use Rattle.warg_program.proofs.TextLemmas.{spelled}
use Rattle.warg_program.proofs.session.Session.include.Goals as goal

pub returns : goal.returns
returns g c =
    spelled _ _ _ (include c.in_ok-number.field-0 c.in_ok-length.length c.in_ok-value.value.items) _
    (rw (c.in_ok-number.ensures.ok, c.in_ok-length.ensures.ok)
    (last_word hex_bytes_in (include c.in_ok-number.field-0 c.in_ok-length.length) _ _ c.in_ok-value.ensures.ok))
    c.say_included.ensures
