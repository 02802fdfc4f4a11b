-- Results that differ.
use Rattle.std.proofs.Common.{◌≡◌, Result, Ok, Err}

-- what is there is no error
pub not_refused : {X E : Type 0} (x : X) (e : E) → ◌≡◌ {A = Result X E} (Ok x) (Err e) → ⊥
not_refused x e is = cc
