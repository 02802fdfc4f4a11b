-- What a check that returns nothing else found.
use Rattle.std.specs.Prelude.{Option, Some, None, Result, Ok, Err}

-- The fault, if there is one.
abbrev pub fault_in : {X E : Type 0} → Result X E → Option E
fault_in (Ok x) = None
fault_in (Err e) = Some e
