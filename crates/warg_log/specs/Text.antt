-- Checkpoints as text.
use Rattle.std.specs.Prelude.{◌≡◌, ℕ, ◌^◌, ◌<◌, ◌↔◌, List, ◌∷◌, ◌++◌, length, Result, Ok, IfOk, IsOk}
use Rattle.std.specs.Fmt.{decimal}
use Rattle.std.specs.List.{AllPass}
use Rattle.hex.specs.Hex.{encode_lower, decode_of, is_hex_digit}
use Rattle.warg_log.specs.Claims.{RootAndLength}

-- The text of a length and hexadecimal digits: the length in decimal, a space (32), and the digits.
abbrev pub length_and_digits : ℕ → List ℕ → List ℕ
length_and_digits n digits = decimal n ++ 32 ∷ digits

-- The text of a checkpoint: its length, and its root's hexadecimal digits in lower case.
abbrev pub checkpoint_text : RootAndLength → List ℕ
checkpoint_text c = length_and_digits c.length (encode_lower c.root)

-- A text is read exactly if it is a length below 2 ^ 64 and 64 hexadecimal digits, and then it is that length and the
-- bytes that the digits spell.
pub record SpellsCheckpoint {E : Type 0} (text : List ℕ) (r : Result RootAndLength E) : Type 0 where
  pub value : IfOk r (λ c. (digits : List ℕ) × (text ≡ length_and_digits c.length digits) × (decode_of digits ≡ Ok c.root))
  pub exactly : IsOk r ↔ ((n : ℕ) × (digits : List ℕ) × (n < 2 ^ 64) × (text ≡ length_and_digits n digits)
      × (length digits ≡ 64) × AllPass is_hex_digit digits)
