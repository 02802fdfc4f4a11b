-- The parts that a separator makes of bytes, and what the last of some words says.
use Rattle.std.specs.Prelude.{◌≡◌, ◌≢◌, ℕ, List, [], ◌∷◌, ◌++◌, Option, Some, None, option_and_then}
use Rattle.std.specs.Option.{option_map}
use Rattle.warg_program.specs.Orders.{first_says, none_left}

-- The byte is not among these.
abbrev pub Lacks : ℕ → List ℕ → Type 0
Lacks b [] = Unit {0}
Lacks b (c ∷ bytes) = (c ≢ b) × Lacks b bytes

-- The front is what stands before the first separator, and the rest what stands behind it.
abbrev pub IsFirstPart : ℕ → List ℕ → List ℕ → Option (List ℕ) → Type 0
IsFirstPart separator bytes front (Some rest) = (bytes ≡ front ++ separator ∷ rest) × Lacks separator front
IsFirstPart separator bytes front None = (bytes ≡ front) × Lacks separator front

-- What the first word says, if no words are left behind it.
abbrev pub last_says : {X : Type 0} → (List ℕ → Option X) → List (List ℕ) → Option X
last_says say words = option_and_then (λ p. option_map (λ _. p.0) (none_left p.1)) (first_says say words)
