use Rattle.warg_program.specs.Words.{hex_bytes_in}
use Rattle.warg_program.specs.Orders.{verify}
use Rattle.warg_program.proofs.WordLemmas.{last_word}
use Rattle.warg_program.proofs.TextLemmas.{spelled}
use Rattle.warg_program.proofs.session.Session.verify.Goals as goal

pub returns : goal.returns
returns g c =
    spelled _ _ _ (verify c.in_ok-root.root c.in_ok-value.value.items c.in_ok-bundle.bundle.items) _
    (rw (c.in_ok-root.ensures.ok, c.in_ok-value.ensures.ok)
    (last_word hex_bytes_in (verify c.in_ok-root.root c.in_ok-value.value.items) _ _ c.in_ok-bundle.ensures.ok))
    (rw c.as_slice.ensures.value at c.say_verdict.ensures)
