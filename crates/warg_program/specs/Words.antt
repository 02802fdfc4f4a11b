-- Lines, the words of a line, and what a word says.
use Rattle.std.specs.Prelude.{ℕ, ◌+◌, ◌-◌, ◌*◌, ◌^◌, ◌==◌, ◌&&◌, nat_le, nat_lt, Bool, if◌then◌else◌, List, [], ◌∷◌, length, codes, Option, Some, None, option_and_then, Result, Ok, Err}
use Rattle.std.specs.List.{list_all}
use Rattle.std.specs.Char.{is_ascii_digit}
use Rattle.warg_crypto.specs.Bytes.{same_bytes}
use Rattle.hex.specs.Hex.{decode_of}
use Rattle.hex.specs.declared.error.FromHexError.{FromHexError}

-- A byte in front of the first of some parts.
abbrev pub onto_first : ℕ → List (List ℕ) → List (List ℕ)
onto_first b [] = (b ∷ []) ∷ []
onto_first b (part ∷ parts) = (b ∷ part) ∷ parts

-- The lines of some bytes. Each ends at an LF (10), and the last one also where the bytes end; nothing
-- follows the last LF but a line that has a byte.
unfoldable pub lines_of : List ℕ → List (List ℕ)
lines_of [] = []
lines_of (b ∷ bytes) = if b == 10 then [] ∷ lines_of bytes else onto_first b (lines_of bytes)

-- The words of a line: what stands between its spaces (32), before the first and behind the last.
-- There is one more word than spaces, and a word may be empty.
unfoldable pub words_of : List ℕ → List (List ℕ)
words_of [] = [] ∷ []
words_of (b ∷ bytes) = if b == 32 then [] ∷ words_of bytes else onto_first b (words_of bytes)

-- The words of the rest of a line: none where the line ended.
abbrev pub words_left : Option (List ℕ) → List (List ℕ)
words_left None = []
words_left (Some rest) = words_of rest

-- The value of decimal digits behind digits of value n.
unfoldable pub value_from : ℕ → List ℕ → ℕ
value_from n [] = n
value_from n (digit ∷ digits) = value_from (10 * n + (digit - 48)) digits

-- The word is one to twenty decimal digits, of a value below 2 ^ 64.
abbrev pub is_number : List ℕ → Bool
is_number word =
    nat_le 1 (length word) && nat_le (length word) 20 && list_all is_ascii_digit word
    && nat_lt (value_from 0 word) (2 ^ 64)

-- The number that a word says.
unfoldable pub number_in : List ℕ → Option ℕ
number_in word = if is_number word then Some (value_from 0 word) else None

-- A number, if it is at most 2 ^ 63.
abbrev pub at_most_2^63 : ℕ → Option ℕ
at_most_2^63 n = if nat_le n (2 ^ 63) then Some n else None

-- The length that a word says: a number up to 2 ^ 63.
unfoldable pub length_in : List ℕ → Option ℕ
length_in word = option_and_then at_most_2^63 (number_in word)

-- What was decoded, if anything was.
abbrev pub decoded : Result (List ℕ) FromHexError → Option (List ℕ)
decoded (Ok bytes) = Some bytes
decoded (Err _) = None

-- The bytes that a word says: none for `-`, else those of its hexadecimal digits, of which there are an
-- even, positive number, in either case.
unfoldable pub hex_bytes_in : List ℕ → Option (List ℕ)
hex_bytes_in word = if same_bytes word (codes "-") then Some [] else if length word == 0 then None else decoded (decode_of word)

-- Bytes, if they are 32.
abbrev pub if_32 : List ℕ → Option (List ℕ)
if_32 bytes = if length bytes == 32 then Some bytes else None

-- The root that a word says: the bytes that it says, if they are 32.
unfoldable pub root_in : List ℕ → Option (List ℕ)
root_in word = option_and_then if_32 (hex_bytes_in word)
