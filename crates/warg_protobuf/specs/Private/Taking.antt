-- A message that takes one field more in.
use Rattle.std.specs.Prelude.{◌≡◌, List, [], ◌∷◌, ◌++◌, Result, Ok, MatchResult}
use Rattle.warg_protobuf.specs.declared.error.WireError.{WireError}
use Rattle.warg_protobuf.specs.Reading.{Fails}

-- What a call did that takes one thing in, in place: it added it, or named the fault of its check.
abbrev pub Puts : {M : Type 0} → Result (Unit {0}) WireError → Result (Unit {0}) WireError → M → M → Type 0
Puts result check added new = MatchResult result (λ _. (check ≡ Ok tt) × (new ≡ added)) (λ e. Fails e check)

-- Taking one more thing in is adding it.
pub record Adds {X M : Type 0} (say : List X → M) (add : M → X → M) : Type 0 where
  pub push : (xs : List X) (x : X) → say (xs ++ x ∷ []) ≡ add (say xs) x
