use Rattle.std.proofs.Common.{refl}
use Rattle.warg_program.specs.Orders.{consistent}
use Rattle.warg_program.proofs.TextLemmas.{spelled}
use Rattle.warg_program.proofs.session.Session.consistent.Goals as goal

pub returns : goal.returns
returns g c =
    spelled _ _ _ (consistent c.in_ok-old.old c.in_ok-new.new) _
    (rw (c.in_ok-old.ensures.ok, c.in_ok-new.ensures.ok, c.in_ok-end.ensures.ok) refl) c.say_consistent.ensures
