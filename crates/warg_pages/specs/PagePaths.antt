-- The paths under which pages are served.
use Rattle.std.specs.Prelude.{ℕ, ◌/◌, ◌%◌, false, List, [], ◌∷◌, ◌++◌, codes}
use Rattle.std.specs.List.{flat_map}
use Rattle.std.specs.Fmt.{decimal, digit_glyph}

-- A byte of a prefix: an x (120), its two hexadecimal digits in lower case, and a slash (47).
abbrev pub byte_path : ℕ → List ℕ
byte_path b = 120 ∷ digit_glyph false (b / 16) ∷ digit_glyph false (b % 16) ∷ 47 ∷ []

-- The path of the page at a prefix, of a version: map/xa0/x3f/69120.
abbrev pub page_path : List ℕ → ℕ → List ℕ
page_path prefix version = codes "map/" ++ (flat_map byte_path prefix ++ decimal version)
