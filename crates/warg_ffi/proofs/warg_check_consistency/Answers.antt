use Rattle.std.proofs.Common.{refl}
use Rattle.warg_ffi.proofs.ReturnsLemmas.{returned_under_two}
use Rattle.warg_ffi.proofs.warg_check_consistency.Goals as goal

pub returns-in-Ok-Ok : goal.returns-in-Ok-Ok
returns-in-Ok-Ok c =
    let is = c.in-Ok-Ok in
    let old = rw (← is.ensures.ok) at (is.ensures.exactly.0 refl) in
    let new = rw (← is.ensures'.ok) at (is.ensures'.exactly.0 refl) in
    rw (← is.ensures.ok, ← is.ensures'.ok)
    (returned_under_two is.old is.new _ _ _ old new c.check_consistency.ensures.verdict c.number.ensures)
