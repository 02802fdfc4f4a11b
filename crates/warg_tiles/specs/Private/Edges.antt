-- The right edge of a log, level by level.
use Rattle.std.specs.Prelude.{◌≡◌, ℕ, zero, suc, ◌+◌, ◌-◌, ◌*◌, ◌/◌, ◌%◌, ◌^◌, List, [], ◌∷◌, ◌++◌, length, map, filter, nat_lt, Option, Some, None}
use Rattle.std.specs.List.{range_with_len}
use Rattle.warg_log.specs.Nodes.{number_of}
use Rattle.warg_log.specs.Tree.{root_of, leaves_below}
use Rattle.warg_tiles.specs.Tiles.{TileAt}
use Rattle.warg_tiles.specs.TileData.{Tiles}
use Rattle.warg_tiles.specs.TileLog.{last_tile, tile_digests, AreTilesOf}

-- The digits of a number in base 256, so many of them, added up: the digests of the partial tiles of so many levels.
unfoldable pub edge_width : ℕ → ℕ → ℕ
edge_width zero n = 0
edge_width (suc levels) n = n % 256 + edge_width levels (n / 256)

-- How many digests the edge has from a level on that has so many nodes.
abbrev pub width_from : ℕ → ℕ → ℕ
width_from level count = edge_width (8 - level) count

-- The digests of the partial tiles of so many levels from one on that has so many nodes, those of the greatest level first.
unfoldable pub edge_within : (List ℕ → List ℕ) → List (List ℕ) → ℕ → ℕ → ℕ → List (List ℕ)
edge_within H ds zero level count = []
edge_within H ds (suc levels) level count =
    edge_within H ds levels (level + 1) (count / 256) ++ tile_digests H ds (record { level = level; number = count / 256; width = count % 256 })

-- The digests of the edge from a level on that has so many nodes.
abbrev pub edge_from : (List ℕ → List ℕ) → List (List ℕ) → ℕ → ℕ → List (List ℕ)
edge_from H ds level count = edge_within H ds (8 - level) level count

-- The leaf digests end with a node of a level, so many nodes standing before it; the edge from the level on is that of the
-- nodes before, and the digest is the node's.
pub record EndsWith (H : List ℕ → List ℕ) (ds : List (List ℕ)) (level count : ℕ) (edge : List (List ℕ)) (digest : List ℕ) : Type 0 where
  pub ends : length ds ≡ (count + 1) * 2 ^ (8 * level)
  pub before : edge ≡ edge_from H ds level count
  pub last : digest ≡ root_of H (leaves_below (number_of (8 * level) count) ds)

-- Behind old tiles were put these of a log of these leaf digests.
abbrev pub AreAdded : (List ℕ → List ℕ) → List (List ℕ) → List TileAt → Tiles → Tiles → Type 0
AreAdded H ds expected old new = (more : Tiles) × (new ≡ old ++ more) × AreTilesOf H ds expected more

-- The root of digests, if there is one.
abbrev pub root_if : (List ℕ → List ℕ) → List (List ℕ) → Option (List ℕ)
root_if H [] = None
root_if H (d ∷ ds) = Some (root_of H (d ∷ ds))

-- Tiles with one more behind them.
abbrev pub tile_behind : Tiles → TileAt → List (List ℕ) → Tiles
tile_behind old t digests = old ++ (t, digests) ∷ []

-- The partial tiles of a length from a level on.
abbrev pub partial_from : ℕ → ℕ → List TileAt
partial_from n level = filter (λ t. nat_lt 0 t.width) (map (last_tile n) (range_with_len level (8 - level)))

-- Lists of digests one after the other, the last one first.
abbrev pub joined : List (List (List ℕ)) → List (List ℕ)
joined [] = []
joined (digests ∷ more) = joined more ++ digests
