use Rattle.warg_program.specs.Words.{hex_bytes_in}
use Rattle.warg_program.specs.Orders.{absent}
use Rattle.warg_program.proofs.WordLemmas.{last_word}
use Rattle.warg_program.proofs.TextLemmas.{spelled}
use Rattle.warg_program.proofs.session.Session.absent.Goals as goal

pub returns : goal.returns
returns g c =
    spelled _ _ _ (absent c.in_ok-key.key.items) _ (last_word hex_bytes_in absent _ _ c.in_ok-key.ensures.ok)
    c.say_absent.ensures
