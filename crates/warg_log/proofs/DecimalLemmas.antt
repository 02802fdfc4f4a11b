-- Texts in decimal.
use Rattle.std.proofs.Common.{◌≡◌, ◌≢◌, ℕ, ◌+◌, ◌^◌, ◌<◌, length, get_or, List, Result, Ok, Err, arith, ap, sym, ◌∙◌}
use Rattle.std.specs.Fmt.{decimal}
use Rattle.std.specs.Str.Parse.{AllDigits, digits_value, ParsesUnsigned}
use Rattle.std.proofs.lemmas.Str.Parse.{IsNumeralModel, not_in_digits, parse_plain}
use Rattle.std.proofs.lemmas.Fmt.{digits_decimal, decimal_nonempty, decimal_digit, first_decimal, decimal-digits_value, parse-decimal}

own : IsNumeralModel (AllDigits 10) (digits_value 10)
own = search

-- a number in decimal has digits alone
pub decimal_without : (n c i : ℕ) → n < 2 ^ 64 → (48 < c + 1 → c < 58 → ⊥) → i < length (decimal n)
    → get_or (decimal n) i 0 ≢ c
decimal_without n c i small out below = grind (arith, not_in_digits, own, digits_decimal)

-- no number begins with a plus
pub no_plus : (n : ℕ) (text : List ℕ) → n < 2 ^ 64 → get_or text 0 0 ≡ 43 → text ≢ decimal n
no_plus n text small plus e = grind (arith, decimal_without, decimal_nonempty n small)

-- no number begins with a needless zero
pub no_zero : (n : ℕ) (text : List ℕ) → n < 2 ^ 64 → get_or text 0 0 ≡ 48 → 1 < length text → text ≢ decimal n
no_zero n text small nought long e = grind (arith, first_decimal, decimal_digit)

-- a text that is read, with no plus and no needless zero, is the number in decimal
pub read_is : {E : Type 0} (text : List ℕ) (n : ℕ) (r : Result ℕ E) → ParsesUnsigned 64 10 text r → r ≡ Ok n
    → get_or text 0 0 ≢ 43 → (get_or text 0 0 ≡ 48 → length text ≡ 1) → text ≡ decimal n
read_is {E} text n (Err e) parses is plain short = cc
read_is {E} text n (Ok m) parses is plain short =
    let read = parse_plain own {E = E} 64 text (Ok m) parses plain in
    let same : m ≡ n = cc in
    sym (decimal-digits_value own text read.0.0 read.0.1 short read.0.2) ∙ ap decimal (sym read.1 ∙ same)

-- a number in decimal is read
pub decimal_is_read : {E : Type 0} (text : List ℕ) (n : ℕ) (r : Result ℕ E) (e : E) → ParsesUnsigned 64 10 text r
    → r ≡ Err e → n < 2 ^ 64 → text ≢ decimal n
decimal_is_read text n r e parses fails small is = let read = parse-decimal 64 n text r small small is parses in cc

-- a number has digits
pub none_empty : (n : ℕ) (text : List ℕ) → n < 2 ^ 64 → length text ≡ 0 → text ≢ decimal n
none_empty n text small empty is = grind (arith, decimal_nonempty)

-- which texts are decimals, and of which number
pub ruleset decimals = (none_empty, no_plus, no_zero, read_is, decimal_is_read)
