-- The digits in a path.
use Rattle.std.specs.Prelude.{ℕ, ◌+◌, ◌-◌, ◌*◌, if◌then◌else◌, List, [], ◌∷◌}
use Rattle.std.specs.Char.{is_ascii_digit}

-- The number whose decimal digits are those of n and then those in a text, whatever else stands between them.
unfoldable pub number_on : ℕ → List ℕ → ℕ
number_on n [] = n
number_on n (byte ∷ bytes) = if is_ascii_digit byte then number_on (10 * n + (byte - 48)) bytes else number_on n bytes
