-- The paths under which tiles and entry bundles are served (C2SP tlog-tiles).
use Rattle.std.specs.Prelude.{ℕ, zero, suc, ◌+◌, ◌/◌, ◌%◌, ◌==◌, if◌then◌else◌, List, [], ◌∷◌, ◌++◌, codes}
use Rattle.std.specs.Fmt.{decimal}
use Rattle.warg_tiles.specs.Tiles.{TileAt}

-- The three decimal digits of a number below 1000.
abbrev pub three_digits : ℕ → List ℕ
three_digits n = (48 + n / 100) ∷ (48 + n / 10 % 10) ∷ (48 + n % 10) ∷ []

-- Three digits between an x (120) and a slash (47).
abbrev pub group_of : ℕ → List ℕ
group_of n = 120 ∷ (three_digits n ++ 47 ∷ [])

-- The groups of three digits that stand before the last one. So many steps are enough as the number says.
unfoldable pub groups_within : ℕ → ℕ → List ℕ
groups_within zero n = []
groups_within (suc steps) n = if n == 0 then [] else groups_within steps (n / 1000) ++ group_of (n % 1000)

-- The groups of a number's digits that stand before the last one.
abbrev pub groups_of : ℕ → List ℕ
groups_of n = groups_within n n

-- A number in groups of three digits: 1234067 is x001/x234/067.
abbrev pub number_path : ℕ → List ℕ
number_path n = groups_of (n / 1000) ++ three_digits (n % 1000)

-- What stands behind the number: nothing for a full tile, else .p/ and the width in decimal.
abbrev pub width_path : ℕ → List ℕ
width_path width = if width == 256 then [] else codes ".p/" ++ decimal width

-- A number and a width as the end of a path.
abbrev pub place_path : ℕ → ℕ → List ℕ
place_path number width = number_path number ++ width_path width

-- The path of a tile.
abbrev pub tile_path : TileAt → List ℕ
tile_path t = codes "tile/" ++ (decimal t.level ++ (47 ∷ place_path t.number t.width))

-- The path of the entry bundle below a tile of level 0.
abbrev pub entries_path : TileAt → List ℕ
entries_path t = codes "tile/entries/" ++ place_path t.number t.width
