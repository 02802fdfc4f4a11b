-- Different tiles and bundles have different paths.
use Rattle.std.proofs.Common.{◌≡◌, ◌≢◌, inl, inr, ℕ, zero, suc, ◌+◌, ◌-◌, ◌*◌, ◌/◌, ◌%◌, ◌^◌, ◌<◌, ◌≤◌, ◌==◌, List, [], ◌∷◌, ◌++◌, true, false, cond, length, get_or, codes, refl, sym, ap, ◌∙◌, append_assoc, rules, arith}
use Rattle.std.specs.List.{AllByRecursion}
use Rattle.std.specs.Char.{is_ascii_digit}
use Rattle.std.specs.Fmt.{decimal}
use Rattle.std.specs.Str.Parse.{AllDigits, digits_value}
use Rattle.std.proofs.lemmas.Bool.{cases_lt, cases_eq, eq-eqb, ne_eqb}
use Rattle.std.proofs.lemmas.Fmt.{decimal_injective, digits_decimal}
use Rattle.std.proofs.lemmas.List.{append_cancel_left, append-nil}
use Rattle.std.proofs.lemmas.Str.Parse.{IsNumeralModel, numerals_by_value, tells_digits, not_in_digits}
use Rattle.warg_tiles.specs.Tiles.{TileAt, IsTile}
use Rattle.warg_tiles.specs.TilePaths.{three_digits, group_of, groups_within, groups_of, number_path, place_path, tile_path, entries_path}
use Rattle.warg_folder.specs.Names.{is_page, page_name}
use Rattle.warg_folder.proofs.ForCallers.{apart}

-- the number whose digits are those of n and then those in a text, whatever else stands between them
abbrev value_on : ℕ → List ℕ → ℕ
value_on n [] = n
value_on n (byte ∷ bytes) = cond (is_ascii_digit byte) (value_on (10 * n + (byte - 48)) bytes) (value_on n bytes)

value_on-append : (n : ℕ) (xs ys : List ℕ) → value_on n (xs ++ ys) ≡ value_on (value_on n xs) ys
value_on-append n [] ys = refl
value_on-append n (byte ∷ xs) ys = elim (is_ascii_digit byte) as
    (λ b. cond b (value_on (10 * n + (byte - 48)) (xs ++ ys)) (value_on n (xs ++ ys))
    ≡ value_on (cond b (value_on (10 * n + (byte - 48)) xs) (value_on n xs)) ys) [
      | true ↦ value_on-append (10 * n + (byte - 48)) xs ys
      | false ↦ value_on-append n xs ys
    ]

digit_is : (d : ℕ) → d < 10 → is_ascii_digit (48 + d) ≡ true
digit_is d small = search rules

value_on-three : (n d : ℕ) (rest : List ℕ) → d < 1000 → value_on n (three_digits d ++ rest)
    ≡ value_on (1000 * n + d) rest
value_on-three n d rest small = rw (
  digit_is (d / 100) (omega arith),
  digit_is (d / 10 % 10) (omega arith),
  digit_is (d % 10) (omega arith),
) (ap (λ m. value_on m rest) (omega arith))

groups_value : (steps n : ℕ) → n ≤ steps → value_on 0 (groups_within steps n) ≡ n
unfolding groups_within
groups_value zero n low = omega arith
groups_value (suc steps) n low = elim (cases_lt 0 n) [
  | inl some ↦
      let front = groups_within steps (n / 1000) in
      rw (ne_eqb n 0 (λ e. omega arith)) (value_on-append 0 front (group_of (n % 1000))
      ∙ value_on-three (value_on 0 front) (n % 1000) (47 ∷ []) (omega arith)
      ∙ omega (arith, groups_value steps (n / 1000) (omega arith)))
  | inr none ↦ rw (eq-eqb n 0 (omega arith)) (omega arith)
]

path_value : (n : ℕ) → value_on 0 (number_path n) ≡ n
path_value n =
    value_on-append 0 (groups_of (n / 1000)) (three_digits (n % 1000))
    ∙ value_on-three (value_on 0 (groups_of (n / 1000))) (n % 1000) [] (omega arith)
    ∙ omega (arith, groups_value (n / 1000) (n / 1000) (omega arith))

number_path_once : (m n : ℕ) → number_path m ≡ number_path n → m ≡ n
number_path_once m n e = sym (path_value m) ∙ ap (value_on 0) e ∙ path_value n

-- a text has no byte c
abbrev Without : ℕ → List ℕ → Type 0
Without c text = AllByRecursion (λ byte. byte ≢ c) text

without_append : (c : ℕ) (xs ys : List ℕ) → Without c xs → Without c ys → Without c (xs ++ ys)
without_append c [] ys xw yw = yw
without_append c (x ∷ xs) ys xw yw = (xw.0, without_append c xs ys xw.1 yw)

-- what stands before the first c and behind it
cut_once : (c : ℕ) (xs ys us vs : List ℕ) → Without c xs → Without c us → xs ++ (c ∷ ys) ≡ us ++ (c ∷ vs) → (xs ≡ us)
    × (ys ≡ vs)
cut_once c [] ys [] vs xw uw e = (refl, cc)
cut_once c [] ys (u ∷ us) vs xw uw e = absurd (uw.0 cc)
cut_once c (x ∷ xs) ys [] vs xw uw e = absurd (xw.0 cc)
cut_once c (x ∷ xs) ys (u ∷ us) vs xw uw e =
    let front : x ≡ u = cc in
    let rest : xs ++ (c ∷ ys) ≡ us ++ (c ∷ vs) = cc in
    let parts = cut_once c xs ys us vs xw.1 uw.1 rest in
    ((let p : xs ≡ us = parts.0 in cc), parts.1)

never_cut : (c : ℕ) (xs us vs : List ℕ) → Without c xs → xs ≡ us ++ (c ∷ vs) → ⊥
never_cut c [] [] vs xw e = cc
never_cut c [] (u ∷ us) vs xw e = cc
never_cut c (x ∷ xs) [] vs xw e = xw.0 cc
never_cut c (x ∷ xs) (u ∷ us) vs xw e = never_cut c xs us vs xw.1 (let rest : xs ≡ us ++ (c ∷ vs) = cc in rest)

dotless_three : (n : ℕ) → Without 46 (three_digits n)
dotless_three n = ((λ e. omega (arith, e)), ((λ e. omega (arith, e)), ((λ e. omega (arith, e)), tt)))

dotless_groups : (steps n : ℕ) → Without 46 (groups_within steps n)
unfolding groups_within
dotless_groups zero n = tt
dotless_groups (suc steps) n =
    elim (n == 0) as (λ b. Without 46 (cond b [] (groups_within steps (n / 1000) ++ group_of (n % 1000)))) [
      | true ↦ tt
      | false ↦ without_append 46 (groups_within steps (n / 1000)) (group_of (n % 1000))
          (dotless_groups steps (n / 1000)) (
            (λ e. omega (arith, e)),
            without_append 46 (three_digits (n % 1000)) (47 ∷ []) (dotless_three (n % 1000))
                ((λ e. omega (arith, e)), tt),
          )
    ]

dotless_path : (n : ℕ) → Without 46 (number_path n)
dotless_path n = without_append 46 (groups_of (n / 1000)) (three_digits (n % 1000))
    (dotless_groups (n / 1000) (n / 1000)) (dotless_three (n % 1000))

full_place : (n : ℕ) → place_path n 256 ≡ number_path n
full_place n = append-nil (number_path n)

partial_place : (n width : ℕ) → width ≢ 256 → place_path n width ≡ number_path n ++ (46 ∷ (112 ∷ (47 ∷ decimal width)))
partial_place n width other = rw (ne_eqb width 256 other) refl

-- a number and a width have a path of their own
place_once : (m v n w : ℕ) → v ≤ 256 → w ≤ 256 → place_path m v ≡ place_path n w → (m ≡ n) × (v ≡ w)
place_once m v n w vs ws e = elim (cases_eq v 256) [
  | inl v_full ↦ elim (cases_eq w 256) [
    | inl w_full ↦
        (number_path_once m n (rw (v_full, w_full, full_place m, full_place n) at e), v_full ∙ sym w_full)
    | inr w_part ↦ absurd (never_cut 46 (number_path m) (number_path n) (112 ∷ (47 ∷ decimal w)) (dotless_path m)
        (rw (v_full, full_place m, partial_place n w w_part) at e))
  ]
  | inr v_part ↦ elim (cases_eq w 256) [
    | inl w_full ↦ absurd (never_cut 46 (number_path n) (number_path m) (112 ∷ (47 ∷ decimal v)) (dotless_path n)
        (sym (rw (w_full, full_place n, partial_place m v v_part) at e)))
    | inr w_part ↦
        let parts = cut_once 46 (number_path m) (112 ∷ (47 ∷ decimal v)) (number_path n) (112 ∷ (47 ∷ decimal w))
        (dotless_path m) (dotless_path n) (rw (partial_place m v v_part, partial_place n w w_part) at e) in (
          number_path_once m n parts.0,
          decimal_injective v w (omega arith) (omega arith)
              (append_cancel_left (112 ∷ (47 ∷ [])) (decimal v) (decimal w) parts.1),
        )
  ]
]

own : IsNumeralModel (AllDigits 10) (digits_value 10)
own = numerals_by_value (AllDigits 10) tells_digits

from_index : (c : ℕ) (xs : List ℕ) → ((i : ℕ) → i < length xs → get_or xs i 0 ≢ c) → Without c xs
from_index c [] each = tt
from_index c (x ∷ xs) each = (each 0 (omega arith), from_index c xs (λ i below. each (suc i) (omega arith)))

-- a number in decimal has digits alone
decimal_without : (n c : ℕ) → n < 2 ^ 64 → (48 < c + 1 → c < 58 → ⊥) → Without c (decimal n)
decimal_without n c small out = from_index c (decimal n)
    (λ i below. not_in_digits own (decimal n) c (digits_decimal own n small) (λ r. out (omega arith) (omega arith)) i
    below)

pub same_tile : (t u : TileAt) → t.level ≡ u.level → t.number ≡ u.number → t.width ≡ u.width → t ≡ u
same_tile t u level number width = λ i. record { level = level i; number = number i; width = width i }

-- different tiles have different paths
path_once : (t u : TileAt) → t.level ≤ 63 → u.level ≤ 63 → t.width ≤ 256 → u.width ≤ 256 → tile_path t ≡ tile_path u
    → t ≡ u
path_once t u tl ul tw uw e =
    let parts = cut_once 47 (decimal t.level) (place_path t.number t.width) (decimal u.level)
    (place_path u.number u.width)
    (decimal_without t.level 47 (omega arith) (λ a b. omega arith))
    (decimal_without u.level 47 (omega arith) (λ a b. omega arith))
    (append_cancel_left (codes "tile/") (decimal t.level ++ (47 ∷ place_path t.number t.width))
    (decimal u.level ++ (47 ∷ place_path u.number u.width)) e) in
    let level : t.level ≡ u.level = decimal_injective t.level u.level (omega arith) (omega arith) parts.0 in
    let place = place_once t.number t.width u.number u.width tw uw parts.1 in
    same_tile t u level place.0 place.1

pub tile_path_once : (t u : TileAt) → t.level < 8 → u.level < 8 → t.width ≤ 256 → u.width ≤ 256
    → tile_path t ≡ tile_path u → t ≡ u
tile_path_once t u tl ul tw uw e = path_once t u (omega (arith, tl)) (omega (arith, ul)) tw uw e

pub one_tile : (t u : TileAt) → IsTile t → IsTile u → tile_path t ≡ tile_path u → t ≡ u
one_tile t u is other = path_once t u is.level other.level is.most other.most

-- and so have bundles
pub entries_path_once : (t u : TileAt) → t.level ≡ 0 → u.level ≡ 0 → t.width ≤ 256 → u.width ≤ 256
    → entries_path t ≡ entries_path u → t ≡ u
entries_path_once t u tl ul tw uw e =
    let place = place_once t.number t.width u.number u.width tw uw
    (append_cancel_left (codes "tile/entries/") (place_path t.number t.width) (place_path u.number u.width) e) in
    same_tile t u (tl ∙ sym ul) place.0 place.1

-- A partial file's path is that of the full one in its place, and then its width.

place_behind : (n width : ℕ) → width < 256 → place_path n width
    ≡ place_path n 256 ++ (codes ".p/" ++ decimal width)
place_behind n width less = partial_place n width (λ e. omega (arith, less, e))
    ∙ ap (λ (l : List ℕ). l ++ (46 ∷ (112 ∷ (47 ∷ decimal width)))) (sym (full_place n))

pub tile_behind : (t : TileAt) → t.width < 256 → tile_path t
    ≡ (tile_path (record t { width = 256 }) ++ codes ".p/") ++ decimal t.width
tile_behind t less =
    ap (λ (l : List ℕ). codes "tile/" ++ (decimal t.level ++ (47 ∷ l))) (place_behind t.number t.width less)
    ∙ ap (λ (l : List ℕ). codes "tile/" ++ l)
    (sym (append_assoc (decimal t.level) (47 ∷ place_path t.number 256) (codes ".p/" ++ decimal t.width)))
    ∙ sym (append_assoc (tile_path (record t { width = 256 })) (codes ".p/") (decimal t.width))

pub entries_behind : (t : TileAt) → t.width < 256 → entries_path t
    ≡ (entries_path (record t { width = 256 }) ++ codes ".p/") ++ decimal t.width
entries_behind t less =
    ap (λ (l : List ℕ). codes "tile/entries/" ++ l) (place_behind t.number t.width less)
    ∙ sym (append_assoc (entries_path (record t { width = 256 })) (codes ".p/") (decimal t.width))

begins_otherwise : (xs ys zs : List ℕ) → Without 101 xs → xs ++ (47 ∷ ys) ≡ 101 ∷ zs → ⊥
begins_otherwise [] ys zs xw e = absurd (omega (arith, ap (λ l. get_or l 0 0) e))
begins_otherwise (x ∷ xs) ys zs xw e = xw.0 cc

-- no tile and no bundle has a page's name
pub no_page_a_tile : (t : TileAt) (path : List ℕ) → tile_path t ≡ page_name path → ⊥
no_page_a_tile t path e = apart (sym (ap is_page e))

pub no_page_a_bundle : (t : TileAt) (path : List ℕ) → entries_path t ≡ page_name path → ⊥
no_page_a_bundle t path e = apart (sym (ap is_page e))

-- no tile has a bundle's path
tile_no_bundle : (t u : TileAt) → t.level ≤ 63 → tile_path t ≡ entries_path u → ⊥
tile_no_bundle t u tl e =
    begins_otherwise (decimal t.level) (place_path t.number t.width) _
    (decimal_without t.level 101 (omega arith) (λ a b. omega arith))
    (append_cancel_left (codes "tile/") (decimal t.level ++ (47 ∷ place_path t.number t.width))
    (codes "entries/" ++ place_path u.number u.width) e)

pub no_tile_a_bundle : (t u : TileAt) → t.level < 8 → tile_path t ≡ entries_path u → ⊥
no_tile_a_bundle t u tl e = tile_no_bundle t u (omega (arith, tl)) e

pub other_kind : (t u : TileAt) → IsTile t → tile_path t ≡ entries_path u → ⊥
other_kind t u is e = tile_no_bundle t u is.level e
