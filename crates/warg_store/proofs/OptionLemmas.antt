-- What two facts say of one option.
use Rattle.std.proofs.Common.{◌≡◌, Option, Some, None}

-- it has one value
pub one_value : {X : Type 0} {o : Option X} {a b : X} → o ≡ Some a → o ≡ Some b → a ≡ b
one_value first second = cc

-- it can't both have a value and have none
pub no_value : {X : Type 0} {o : Option X} {a : X} → o ≡ None → o ≡ Some a → ⊥
no_value none some = cc
