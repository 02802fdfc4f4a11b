use Rattle.std.proofs.Common.{refl}
use Rattle.warg_program.specs.Orders.{bundle}
use Rattle.warg_program.proofs.TextLemmas.{spelled}
use Rattle.warg_program.proofs.session.Session.bundle.Goals as goal

pub returns : goal.returns
returns g c =
    spelled _ _ _ (bundle c.in_ok-number.field-0 c.in_ok-length.length) _
    (rw (c.in_ok-number.ensures.ok, c.in_ok-length.ensures.ok, c.in_ok-end.ensures.ok) refl) c.say_bundle.ensures
