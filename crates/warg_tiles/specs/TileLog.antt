-- A log that keeps the digests of its right edge alone: those of its partial tiles.
use Rattle.std.specs.Prelude.{◌≡◌, ◌≢◌, ◌<◌, ◌↔◌, ◌⊎◌, Contains, AllPairs, ℕ, zero, suc, ◌+◌, ◌-◌, ◌*◌, ◌/◌, ◌%◌, ◌^◌, ◌==◌, ◌&&◌, nat_lt, if◌then◌else◌, List, [], ◌∷◌, ◌++◌, length, map, filter, take, drop, Option, Some, None, unwrap_or}
use Rattle.std.specs.List.{AllByRecursion, flat_map, range_with_len}
use Rattle.std.specs.Option.{option_to_list}
use Rattle.warg_crypto.specs.Collisions.{AreHashes}
use Rattle.warg_log.specs.Tree.{root_of, leaves_below, own_digest}
use Rattle.warg_protobuf.specs.Decoding.{earlier}
use Rattle.warg_tiles.specs.Tiles.{TileAt, node_in, tile_end}
use Rattle.warg_tiles.specs.Between.{IsTileOf}
use Rattle.warg_tiles.specs.TileData.{Tiles, IsTileBy}
use Rattle.warg_tiles.specs.declared.error.OpenError.{OpenError}
use Rattle.warg_tiles.specs.declared.error.OpenError.TheVariants.{Count, Place, Width}

-- The length of a log, the length at which its full tiles were last handed out, the digests of its partial tiles, those of
-- the greatest level first, and the full tiles since then.
pub record RightEdge : Type 0 where
  pub len : ℕ
  pub taken : ℕ
  pub digests : List (List ℕ)
  pub full : Tiles

-- The tile of a level at the end of a length: as wide as there are nodes of the level behind the last full tile.
abbrev pub last_tile : ℕ → ℕ → TileAt
last_tile n level = record { level = level; number = n / 2 ^ (8 * level) / 256; width = n / 2 ^ (8 * level) % 256 }

-- The partial tiles of a length, by level. A length up to 2 ^ 63 has eight levels.
abbrev pub partial_tiles : ℕ → List TileAt
partial_tiles n = filter (λ t. nat_lt 0 t.width) (map (last_tile n) (range_with_len 0 8))

-- The full tiles that the last of so many nodes of a level completes: the level's last tile, where the nodes fill it, and
-- then those that this tile's root completes on the levels above.
unfoldable pub completed_from : ℕ → ℕ → ℕ → List TileAt
completed_from zero level count = []
completed_from (suc levels) level count =
    if count % 256 == 0
    then record { level = level; number = count / 256 - 1; width = 256 } ∷ completed_from levels (level + 1) (count / 256)
    else []

-- The full tiles that a length's last entry completes.
abbrev pub completed_at : ℕ → List TileAt
completed_at n = completed_from 8 0 n

-- The full tiles that a length has and an older one hasn't, in the order in which the entries complete them.
abbrev pub full_between : ℕ → ℕ → List TileAt
full_between old new = flat_map completed_at (range_with_len (old + 1) (new - old))

-- One full tile is filled before another: by an earlier entry, or by the same one on a lower level.
abbrev pub IsFilledBefore : TileAt → TileAt → Type 0
IsFilledBefore s t = (tile_end s < tile_end t) ⊎ ((tile_end s ≡ tile_end t) × (s.level < t.level))

-- The tiles are the full ones that a length has and an older one hasn't, each once, in the order in which they are filled.
pub record AreFullBetween (old new : ℕ) (tiles : List TileAt) : Type 0 where
  pub exactly : (t : TileAt) → Contains tiles t ↔ ((t.width ≡ 256) × IsTileOf new t × (IsTileOf old t → ⊥))
  pub once : AllPairs (λ (s t : TileAt). s ≢ t) tiles
  pub order : AllPairs IsFilledBefore tiles

-- The tiles are the partial ones of a length, each once, by level.
pub record ArePartialOf (n : ℕ) (tiles : List TileAt) : Type 0 where
  pub exactly : (t : TileAt) → Contains tiles t ↔ (IsTileOf n t × (t.width < 256))
  pub once : AllPairs (λ (s t : TileAt). s ≢ t) tiles
  pub order : AllPairs (λ (s t : TileAt). s.level < t.level) tiles

-- The digests of a tile's nodes in a log of these leaf digests, from left to right: each the root of the leaves below.
abbrev pub tile_digests : (List ℕ → List ℕ) → List (List ℕ) → TileAt → List (List ℕ)
tile_digests H ds t = map (λ i. root_of H (leaves_below (node_in t i) ds)) (range_with_len 0 t.width)

-- The digests of the partial tiles of a log of these leaf digests, those of the greatest level first.
abbrev pub edge_digests : (List ℕ → List ℕ) → List (List ℕ) → List (List ℕ)
edge_digests H ds = flat_map (λ level. tile_digests H ds (last_tile (length ds) level)) (7 ∷ 6 ∷ 5 ∷ 4 ∷ 3 ∷ 2 ∷ 1 ∷ 0 ∷ [])

-- Tiles with their digests are these of a log of these leaf digests.
pub record AreTilesOf (H : List ℕ → List ℕ) (ds : List (List ℕ)) (expected : List TileAt) (tiles : Tiles) : Type 0 where
  pub places : map (λ (t : TileAt × List (List ℕ)). t.0) tiles ≡ expected
  pub digests : AllByRecursion (λ (t : TileAt × List (List ℕ)). IsTileBy (own_digest H ds) t.0 t.1) tiles

-- Tiles with their digests, out of one list of digests: those of the last tile stand first.
abbrev pub split_into : List TileAt → List (List ℕ) → Tiles
split_into [] digests = []
split_into (t ∷ ts) digests = (t, drop (length digests - t.width) digests) ∷ split_into ts (take (length digests - t.width) digests)

-- The partial tiles of the log with their digests, by level.
abbrev pub edge_tiles : RightEdge → Tiles
edge_tiles e = split_into (partial_tiles e.len) e.digests

-- The root by tiles of growing level, and by the root of what is behind them, if anything is: behind the digests of each
-- tile stands the root so far.
abbrev pub root_on : (List ℕ → List ℕ) → Option (List ℕ) → Tiles → Option (List ℕ)
root_on H behind [] = behind
root_on H behind (t ∷ ts) = root_on H (Some (root_of H (t.1 ++ option_to_list behind))) ts

-- The root of a log by its partial tiles, by level; that of no entries by none.
abbrev pub root_by_tiles : (List ℕ → List ℕ) → Tiles → List ℕ
root_by_tiles H tiles = unwrap_or (root_on H None tiles) (H [])

-- The tiles are the partial ones of a length, each with as many digests of 32 bytes as its width.
pub record ArePartialTiles (n : ℕ) (tiles : Tiles) : Type 0 where
  pub places : map (λ (t : TileAt × List (List ℕ)). t.0) tiles ≡ partial_tiles n
  pub counts : AllByRecursion (λ (t : TileAt × List (List ℕ)). length t.1 ≡ t.0.width) tiles
  pub hashes : AllByRecursion (λ (t : TileAt × List (List ℕ)). AreHashes t.1) tiles

-- The log stands for these leaf digests: it has the digests of their partial tiles, and the full tiles since the last ones
-- were handed out.
pub record StandsFor (H : List ℕ → List ℕ) (e : RightEdge) (ds : List (List ℕ)) : Type 0 where
  pub count : length ds ≡ e.len
  pub edge : e.digests ≡ edge_digests H ds
  pub full : AreTilesOf H ds (full_between e.taken e.len) e.full

-- The fault of a tile in another's place: another place, and then another width.
abbrev pub tile_fault : TileAt → TileAt → Option OpenError
tile_fault wanted given = if wanted.level == given.level && wanted.number == given.number then (if wanted.width == given.width then None else Some Width) else Some Place

-- The first fault of tiles that aren't these: of a tile, or that there are more or fewer.
abbrev pub tiles_fault : List TileAt → List TileAt → Option OpenError
tiles_fault [] [] = None
tiles_fault [] (given ∷ more) = Some Count
tiles_fault (wanted ∷ others) [] = Some Count
tiles_fault (wanted ∷ others) (given ∷ more) = earlier (tile_fault wanted given) (tiles_fault others more)
