use Rattle.warg_program.specs.Words.{hex_bytes_in}
use Rattle.warg_program.specs.Orders.{insert}
use Rattle.warg_program.proofs.WordLemmas.{last_word}
use Rattle.warg_program.proofs.TextLemmas.{spelled}
use Rattle.warg_program.proofs.session.Session.insert.Goals as goal

pub returns : goal.returns
returns g c =
    spelled _ _ _ (insert c.in_ok-key.key.items c.in_ok-value.value.items) _
    (rw c.in_ok-key.ensures.ok (last_word hex_bytes_in (insert c.in_ok-key.key.items) _ _ c.in_ok-value.ensures.ok))
    c.insert_entry.ensures
