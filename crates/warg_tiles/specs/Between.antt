-- The tiles of a length, and those by which a log grows.
use Rattle.std.specs.Prelude.{◌≡◌, ◌≢◌, ◌↔◌, ℕ, zero, suc, ◌+◌, ◌-◌, ◌*◌, ◌/◌, ◌^◌, ◌<◌, min, ◌==◌, if◌then◌else◌, List, [], ◌++◌, map, Contains, AllPairs}
use Rattle.std.specs.List.{range_with_len}
use Rattle.warg_tiles.specs.Tiles.{TileAt}

-- The tile is one of the length n: its width is that of its 256 places which the length fills, n / 2 ^ (8 L) nodes being
-- at its level L.
pub record IsTileOf (n : ℕ) (t : TileAt) : Type 0 where
  pub some : 0 < t.width
  pub width : t.width ≡ min (n / 2 ^ (8 * t.level) - 256 * t.number) 256

-- The tile of a level and a number, where there are so many nodes at the level.
abbrev pub filled : ℕ → ℕ → ℕ → TileAt
filled level count number = record { level = level; number = number; width = min (count - 256 * number) 256 }

-- The tiles of a level with `new` nodes which `old` of these nodes hadn't: from the first that isn't full in the old ones
-- up to the last. Where no node is new there are none.
abbrev pub level_tiles : ℕ → ℕ → ℕ → List TileAt
level_tiles level old new = if old == new then [] else map (filled level new) (range_with_len (old / 256) ((new + 255) / 256 - old / 256))

-- The tiles of so many levels from one on that a length has and an older one hasn't.
unfoldable pub levels_from : ℕ → ℕ → ℕ → ℕ → List TileAt
levels_from zero level old new = []
levels_from (suc levels) level old new = level_tiles level (old / 2 ^ (8 * level)) (new / 2 ^ (8 * level)) ++ levels_from levels (level + 1) old new

-- The tiles that a length has and an older one hasn't, by level and then by number. A length up to 2 ^ 63 has eight levels.
abbrev pub tiles_between : ℕ → ℕ → List TileAt
tiles_between old new = levels_from 8 0 old new

-- The tiles are those that a length has and an older one hasn't, each once. A tile of another width is another one.
pub record AreNew (old new : ℕ) (tiles : List TileAt) : Type 0 where
  pub exactly : (t : TileAt) → Contains tiles t ↔ (IsTileOf new t × (IsTileOf old t → ⊥))
  pub once : AllPairs (λ (s t : TileAt). s ≢ t) tiles
