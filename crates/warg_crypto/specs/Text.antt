-- Hashes as text.
use Rattle.std.specs.Prelude.{◌≡◌, ℕ, ◌↔◌, List, length, Result, Ok, IfOk, IsOk}
use Rattle.std.specs.List.{AllPass}
use Rattle.hex.specs.Hex.{decode_of, is_hex_digit}

-- a hash is read from a text exactly if it is 64 hexadecimal digits, and then it is the bytes that they spell
pub record SpellsHash {E : Type 0} (text : List ℕ) (r : Result (List ℕ) E) : Type 0 where
  pub value : IfOk r (λ h. decode_of text ≡ Ok h)
  pub exactly : IsOk r ↔ ((length text ≡ 64) × AllPass is_hex_digit text)
