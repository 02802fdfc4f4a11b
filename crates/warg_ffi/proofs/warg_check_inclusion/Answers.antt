use Rattle.std.proofs.Common.{refl}
use Rattle.warg_ffi.proofs.ReturnsLemmas.{returned_under_one}
use Rattle.warg_ffi.proofs.warg_check_inclusion.Goals as goal

pub returns-in-Ok : goal.returns-in-Ok
returns-in-Ok c = rw (← c.in-Ok.ensures.ok)
    (returned_under_one c.in-Ok.root _ _ _ (rw (← c.in-Ok.ensures.ok) at (c.in-Ok.ensures.exactly.0 refl))
    c.check_inclusion.ensures.verdict c.number.ensures)
