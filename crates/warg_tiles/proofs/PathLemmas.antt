-- Numbers in groups of three digits.
use Rattle.std.proofs.Common.{◌≡◌, ◌≢◌, inl, inr, ℕ, zero, suc, ◌+◌, ◌-◌, ◌*◌, ◌/◌, ◌%◌, ◌^◌, ◌<◌, ◌≤◌, List, [], ◌∷◌, ◌++◌, ◌==◌, length, get_or, true, false, cond, rules, drop, Option, Some, None, MatchOption, codes, Bor, refl, sym, ap, ◌∙◌, arith}
use Rattle.std.proofs.lemmas.Bool.{cases_lt, cases_eq, eq-eqb, ne_eqb}
use Rattle.std.specs.List.{AllByRecursion}
use Rattle.warg_protobuf.proofs.ForCallers.{all_append, all_at}
use Rattle.std.proofs.lemmas.List.{at_drop_more, append_assoc, append_cancel_left, append-nil, length-append}
use Rattle.std.proofs.Math.Seq.{get_or-append_seam}
use Rattle.std.proofs.lemmas.Str.Pattern.{IsSplitOnceResult, split_after, split_parts}
use Rattle.std.specs.Char.{is_ascii_digit}
use Rattle.std.specs.Fmt.{decimal, char_count, padded_integral, format_spec}
use Rattle.std.proofs.lemmas.Fmt.{decimal_digit, decimal_step}
use Rattle.warg_tiles.specs.TilePaths.{three_digits, group_of, groups_within, groups_of, number_path, place_path, tile_path}
use Rattle.warg_tiles.specs.Tiles.{TileAt, IsTile}
use Rattle.warg_log.proofs.ForCallers.{decimal_without}
use Rattle.warg_tiles.specs.Private.PathDigits.{number_on}

-- more digits make no smaller number
pub number_on-le : (n : ℕ) (text : List ℕ) → n ≤ number_on n text
unfolding number_on
number_on-le n [] = omega arith
number_on-le n (byte ∷ bytes) = elim (is_ascii_digit byte) as
    (λ b. n ≤ cond b (number_on (10 * n + (byte - 48)) bytes) (number_on n bytes)) [
      | true ↦ omega (arith, number_on-le (10 * n + (byte - 48)) bytes)
      | false ↦ number_on-le n bytes
    ]

-- a byte of a text more
number_on-drop : (n i : ℕ) (text : List ℕ) → i < length text
    → number_on n (drop i text) ≡ cond (is_ascii_digit (get_or text i 0))
    (number_on (10 * n + (get_or text i 0 - 48)) (drop (i + 1) text)) (number_on n (drop (i + 1) text))
unfolding number_on
number_on-drop n i text inside = at_drop_more (number_on n) text i 0 inside

-- a digit of a text is read
pub read_digit : (n i : ℕ) (text : List ℕ) → i < length text → is_ascii_digit (get_or text i 0) ≡ true
    → number_on n (drop i text) ≡ number_on 0 text
    → (number_on (10 * n + (get_or text i 0 - 48)) (drop (i + 1) text) ≡ number_on 0 text)
    × (10 * n + (get_or text i 0 - 48) ≤ number_on 0 text)
read_digit n i text inside is so_far =
    let read = rw is at (sym (number_on-drop n i text inside) ∙ so_far) in
    (read, omega (arith, read, number_on-le (10 * n + (get_or text i 0 - 48)) (drop (i + 1) text)))

-- and another byte
pub read_other : (n i : ℕ) (text : List ℕ) → i < length text → is_ascii_digit (get_or text i 0) ≡ false
    → number_on n (drop i text) ≡ number_on 0 text → number_on n (drop (i + 1) text) ≡ number_on 0 text
read_other n i text inside is so_far = rw is at (sym (number_on-drop n i text inside) ∙ so_far)

-- one text behind another
pub number_on-append : (n : ℕ) (xs ys : List ℕ) → number_on n (xs ++ ys) ≡ number_on (number_on n xs) ys
unfolding number_on
number_on-append n [] ys = refl
number_on-append n (byte ∷ xs) ys = elim (is_ascii_digit byte) as
    (λ b. cond b (number_on (10 * n + (byte - 48)) (xs ++ ys)) (number_on n (xs ++ ys))
    ≡ number_on (cond b (number_on (10 * n + (byte - 48)) xs) (number_on n xs)) ys) [
      | true ↦ number_on-append (10 * n + (byte - 48)) xs ys
      | false ↦ number_on-append n xs ys
    ]

-- a digit is one
digit_is : (d : ℕ) → d < 10 → is_ascii_digit (48 + d) ≡ true
digit_is d small = search rules

-- three digits more
pub number_on-three : (n d : ℕ) (rest : List ℕ) → d < 1000 → number_on n (three_digits d ++ rest)
    ≡ number_on (1000 * n + d) rest
unfolding number_on
number_on-three n d rest small = rw (
  digit_is (d / 100) (omega arith),
  digit_is (d / 10 % 10) (omega arith),
  digit_is (d % 10) (omega arith),
) (ap (λ m. number_on m rest) (omega arith))

-- the digits of the groups are the number's
groups_on : (steps n : ℕ) → n ≤ steps → number_on 0 (groups_within steps n) ≡ n
unfolding groups_within number_on
groups_on zero n low = omega arith
groups_on (suc steps) n low = elim (cases_lt 0 n) [
  | inl some ↦
      let front = groups_within steps (n / 1000) in
      rw (ne_eqb n 0 (λ e. omega arith)) (number_on-append 0 front (group_of (n % 1000))
      ∙ number_on-three (number_on 0 front) (n % 1000) (47 ∷ []) (omega arith)
      ∙ omega (arith, groups_on steps (n / 1000) (omega arith)))
  | inr none ↦ rw (eq-eqb n 0 (omega arith)) (omega arith)
]

-- the digits of a number's path are the number's
number_on-path : (n : ℕ) → number_on 0 (number_path n) ≡ n
unfolding number_on
number_on-path n =
    number_on-append 0 (groups_of (n / 1000)) (three_digits (n % 1000))
    ∙ number_on-three (number_on 0 (groups_of (n / 1000))) (n % 1000) [] (omega arith)
    ∙ omega (arith, groups_on (n / 1000) (n / 1000) (omega arith))

-- a step more than the number says changes nothing
groups_enough : (s t n : ℕ) → n ≤ s → n ≤ t → groups_within s n ≡ groups_within t n
unfolding groups_within
groups_enough zero zero n low high = refl
groups_enough zero (suc t) n low high = rw (eq-eqb n 0 (omega arith)) refl
groups_enough (suc s) zero n low high = rw (eq-eqb n 0 (omega arith)) refl
groups_enough (suc s) (suc t) n low high = elim (cases_lt 0 n) [
  | inl some ↦ rw (groups_enough s t (n / 1000) (omega arith) (omega arith)) refl
  | inr none ↦ rw (eq-eqb n 0 (omega arith)) refl
]

-- the groups of a number are those of the number without its last three digits, and these
pub groups_step : (n : ℕ) → 0 < n → groups_of n ≡ groups_of (n / 1000) ++ group_of (n % 1000)
unfolding groups_within
groups_step zero some = absurd (omega arith)
groups_step (suc n) some = rw (
  ne_eqb (suc n) 0 (λ e. omega arith),
  groups_enough n (suc n / 1000) (suc n / 1000)
      (omega arith) (omega arith),
) refl

three_is : (n a b c : ℕ) → n / 100 ≡ a → n / 10 % 10 ≡ b → n % 10 ≡ c → three_digits n ≡ (48 + a) ∷ (48 + b) ∷
    (48 + c) ∷ []
three_is n a b c hundreds tens ones = rw (hundreds, tens, ones) refl

-- three places of zeros and a number's digits
pub three_padded : (n : ℕ) → n < 1000 → padded_integral (format_spec 32 0 4 3 (2 ^ 64 - 1)) false [] (decimal n)
    ≡ three_digits n
unfolding padded_integral char_count
three_padded n small = elim (cases_lt n 10) [
  | inl one ↦ rw (decimal_digit n one) (sym (three_is n 0 0 n (omega arith) (omega arith) (omega arith)))
  | inr two ↦ elim (cases_lt n 100) [
    | inl two' ↦ rw (decimal_step n two (omega arith), decimal_digit (n / 10) (omega arith))
        (sym (three_is n 0 (n / 10) (n % 10) (omega arith) (omega arith) (omega arith)))
    | inr three ↦
        rw (
          decimal_step n two (omega arith),
          decimal_step (n / 10) (omega arith) (omega arith),
          decimal_digit (n / 10 / 10) (omega arith),
        )
        (sym (three_is n (n / 10 / 10) (n / 10 % 10) (n % 10) (omega arith) (omega arith) (omega arith)))
  ]
]

-- what stands behind one text more
pub strip_more : (text front piece rest : List ℕ) (r : Option (Bor (List ℕ))) → text ≡ front ++ rest
    → MatchOption r ((left : List ℕ) → rest ≢ piece ++ left) (λ x. rest ≡ piece ++ x.now)
    → MatchOption r ((left : List ℕ) → text ≢ (front ++ piece) ++ left) (λ x. text ≡ (front ++ piece) ++ x.now)
strip_more text front piece rest None is found = λ left e. found left
    (append_cancel_left front rest (piece ++ left) (sym is ∙ e ∙ append_assoc front piece left))
strip_more text front piece rest (Some x) is found = is ∙ ap (λ l. front ++ l) found
    ∙ sym (append_assoc front piece x.now)

-- a number's path is that of the number which its digits are
pub path_of_digits : (text : List ℕ) (n m : ℕ) → number_on 0 text ≡ n → text ≡ number_path m
    → (n ≡ m) × (text ≡ number_path n)
path_of_digits text n m digits is =
    let same : n ≡ m = sym digits ∙ ap (number_on 0) is ∙ number_on-path m in
    (same, is ∙ ap number_path (sym same))

-- a text has no dot
abbrev Dotless : List ℕ → Type 0
Dotless text = AllByRecursion (λ byte. byte ≢ 46) text

dotless_three : (n : ℕ) → Dotless (three_digits n)
dotless_three n = ((λ e. omega (arith, e)), ((λ e. omega (arith, e)), ((λ e. omega (arith, e)), tt)))

dotless_groups : (steps n : ℕ) → Dotless (groups_within steps n)
unfolding groups_within
dotless_groups zero n = tt
dotless_groups (suc steps) n =
    elim (n == 0) as (λ b. Dotless (cond b [] (groups_within steps (n / 1000) ++ group_of (n % 1000)))) [
      | true ↦ tt
      | false ↦ all_append (λ byte. byte ≢ 46) (groups_within steps (n / 1000)) (group_of (n % 1000))
          (dotless_groups steps (n / 1000)) (
            (λ e. omega (arith, e)),
            all_append (λ byte. byte ≢ 46) (three_digits (n % 1000)) (47 ∷ [])
                (dotless_three (n % 1000)) ((λ e. omega (arith, e)), tt),
          )
    ]

-- a number in groups of three digits has no dot
pub no_dot : (n i : ℕ) → i < length (number_path n) → get_or (number_path n) i 0 ≢ 46
no_dot n i inside = all_at (λ byte. byte ≢ 46) (number_path n) i 0
    (all_append (λ byte. byte ≢ 46) (groups_of (n / 1000)) (three_digits (n % 1000))
    (dotless_groups (n / 1000) (n / 1000)) (dotless_three (n % 1000))) inside

-- a full tile's place has no dot
pub full_place : (n : ℕ) → place_path n 256 ≡ number_path n
full_place n = append-nil (number_path n)

-- a partial tile's has one behind its number
pub partial_place : (n width : ℕ) → width ≢ 256 → place_path n width
    ≡ number_path n ++ (46 ∷ (112 ∷ (47 ∷ decimal width)))
partial_place n width other = rw (ne_eqb width 256 other) refl

-- a place with no dot is that of a full tile, and one with a dot parts there into a number and a width
pub place_parts : (text : List ℕ) (number width : ℕ) (r : Option (Bor (List ℕ) × Bor (List ℕ)))
    → IsSplitOnceResult 46 text r → text ≡ place_path number width
    → MatchOption r (text ≡ number_path number) (λ x. (width ≢ 256) × (x.0.now ≡ number_path number)
    × (x.1.now ≡ 112 ∷ (47 ∷ decimal width)))
place_parts text number width None cut is = elim (cases_eq width 256) [
  | inl full ↦ is ∙ ap (place_path number) full ∙ full_place number
  | inr other ↦ absurd (split_after 46 text (number_path number) (112 ∷ (47 ∷ decimal width)) None cut (omega arith)
      (is ∙ partial_place number width other) (no_dot number))
]
place_parts text number width (Some (before, behind)) cut is = elim (cases_eq width 256) [
  | inl full ↦
      let same : before.now ++ (46 ∷ behind.now) ≡ number_path number =
      sym (split_parts 46 text (Some (before, behind)) cut (omega arith)).0 ∙ is ∙ ap (place_path number) full
      ∙ full_place number in
      absurd (no_dot number (length before.now)
      (omega (arith, ap length same, length-append before.now (46 ∷ behind.now)))
      (rw (← same) (get_or-append_seam before.now 46 behind.now 0)))
  | inr other ↦ let parts = split_after 46 text (number_path number) (112 ∷ (47 ∷ decimal width))
      (Some (before, behind)) cut (omega arith) (is ∙ partial_place number width other) (no_dot number) in
      (other, parts.0, parts.1)
]

-- what stands before and behind the slash of a tile's path
pub parts_at_slash : (text left rest : List ℕ) (t : TileAt) (r : Option (Bor (List ℕ) × Bor (List ℕ)))
    → text ≡ codes "tile/" ++ left → rest ≡ left → IsSplitOnceResult 47 rest r → IsTile t → text ≡ tile_path t
    → MatchOption r ⊥ (λ x. (x.0.now ≡ decimal t.level) × (x.1.now ≡ place_path t.number t.width))
parts_at_slash text left rest t r front same cut tile is =
    split_after 47 rest (decimal t.level) (place_path t.number t.width) r cut (omega arith)
    (same ∙ append_cancel_left (codes "tile/") left (decimal t.level ++ (47 ∷ place_path t.number t.width))
    (sym front ∙ is))
    (λ i inside. decimal_without t.level 47 i (omega (arith, tile.level)) (λ a b. omega arith) inside)
