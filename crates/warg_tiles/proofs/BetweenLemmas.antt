-- The tiles by which a log grows, one by one.
use Rattle.std.proofs.Common.{◌≡◌, ℕ, ◌+◌, ◌-◌, ◌*◌, ◌/◌, ◌^◌, ◌<◌, ◌≤◌, List, [], ◌∷◌, ◌++◌, map, refl, sym, ◌∙◌, arith}
use Rattle.std.specs.List.{range_with_len}
use Rattle.std.proofs.lemmas.List.{append_assoc, append-nil}
use Rattle.std.proofs.lemmas.List.FromFn.{map-range_with_len_more}
use Rattle.warg_tiles.specs.Tiles.{TileAt}
use Rattle.warg_tiles.specs.Between.{filled, level_tiles, levels_from}

-- a tile of a level more
pub numbers_more : (old : List TileAt) (level new a b : ℕ) → a ≤ b
    → (old ++ map (filled level new) (range_with_len a (b - a))) ++ filled level new b ∷ []
    ≡ old ++ map (filled level new) (range_with_len a (b + 1 - a))
numbers_more old level new a b order = grind (
  arith,
  append_assoc old
      (map (filled level new) (range_with_len a (b - a))) (filled level new b ∷ []),
  map-range_with_len_more
      (filled level new) a (b - a) b,
)

-- no level is left
pub all_levels : (tiles : List TileAt) (level old new : ℕ) → level ≡ 8 → tiles ++ levels_from (8 - level) level old new
    ≡ levels_from 8 0 old new → tiles ≡ levels_from 8 0 old new
unfolding levels_from
all_levels tiles level old new last is = sym (append-nil tiles) ∙ rw last at is

-- a level more
pub levels_more : (tiles : List TileAt) (level old new : ℕ) → level < 8
    → (tiles ++ level_tiles level (old / 2 ^ (8 * level)) (new / 2 ^ (8 * level))) ++ levels_from (8 - (level + 1))
    (level + 1) old new ≡ tiles ++ levels_from (8 - level) level old new
unfolding levels_from
levels_more tiles level old new low = grind (arith, append_assoc)

-- a tile by its parts
pub same_tile : (t : TileAt) (level number width : ℕ) → t.level ≡ level → t.number ≡ number → t.width ≡ width
    → t ≡ record { level = level; number = number; width = width }
same_tile t level number width a b c = rw (← a, ← b, ← c) refl
