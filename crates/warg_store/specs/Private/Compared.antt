-- What a folder's files have of a log, as its entries are read back.
use Rattle.std.specs.Prelude.{◌≡◌, ◌^◌, ◌<◌, ◌≤◌, List, length, map, take, Some, ℕ}
use Rattle.std.specs.List.{AllByRecursion, flat_map}
use Rattle.warg_crypto.specs.Digests.{sha256}
use Rattle.warg_log.specs.Tree.{leaves_of}
use Rattle.warg_tiles.specs.EntryBundles.{bundle_of}
use Rattle.warg_tiles.specs.Tiles.{TileAt, IsTile}
use Rattle.warg_tiles.specs.TileData.{Tiles}
use Rattle.warg_tiles.specs.TileLog.{tile_digests}
use Rattle.warg_tiles.specs.TilePaths.{tile_path, entries_path}
use Rattle.warg_folder.specs.Files.{Files}
use Rattle.warg_store.specs.Audited.{HasOlder}
use Rattle.warg_store.specs.declared.older.Newer.{Newer}
use Rattle.warg_store.specs.declared.older.Newer.TheVariants.{Tile, Bundle}
use Rattle.warg_store.specs.Reading.{bundle_in}
use Rattle.warg_store.specs.Log.{LogOf, AreShort, HasFiles, IsTileIn, IsBundleIn, tile_bytes, bundle_bytes}

-- The files have each of the tiles at its path: its digests, one after the other.
abbrev pub HasTiles : Files → Tiles → Type 0
HasTiles files tiles = AllByRecursion (λ t. files (tile_path t.0) ≡ Some (flat_map (λ digest. digest) t.1)) tiles

-- The files are whole: they have each tile and bundle of a log of short entries, and of older ones no others.
pub record IsWhole (log : LogOf) (files : Files) : Type 0 where
  pub most : length log.entries ≤ 2 ^ 63
  pub short : AreShort log.entries
  pub holds : HasFiles log files
  pub older : HasOlder log files

-- The tile is one of the log, with the log's digests.
abbrev pub IsOwnTile : LogOf → TileAt × List (List ℕ) → Type 0
IsOwnTile log t = IsTileIn log t.0 × (t.1 ≡ tile_digests sha256 (leaves_of sha256 log.entries) t.0)

-- What took the place of older files is the log's: a tile with its digests, or a bundle's entries.
abbrev pub IsPartOf : LogOf → Newer → Type 0
IsPartOf log (Tile newer) = IsOwnTile log (newer.now.tile, newer.now.digests.items)
IsPartOf log (Bundle number entries) = map (λ e. e.items) entries.now ≡ bundle_in log number

-- The tile stands in the place of another one, and is narrower.
pub record IsNarrower (t newer : TileAt) : Type 0 where
  pub is : IsTile t
  pub level : t.level ≡ newer.level
  pub number : t.number ≡ newer.number
  pub less : t.width < newer.width
  pub partial : t.width < 256

-- The tile of a newer file, the path of a file of its kind, and the bytes of its first digests or entries.
abbrev pub tile_of : Newer → TileAt
tile_of (Tile newer) = newer.now.tile
tile_of (Bundle number entries) = record { level = 0; number = number; width = length entries.now }

abbrev pub path_beside : Newer → TileAt → List ℕ
path_beside (Tile newer) t = tile_path t
path_beside (Bundle number entries) t = entries_path t

abbrev pub beginning : Newer → ℕ → List ℕ
beginning (Tile newer) n = flat_map (λ digest. digest) (take n newer.now.digests.items)
beginning (Bundle number entries) n = bundle_of (take n (map (λ e. e.items) entries.now))

-- What has this name is no older file in the place of the newer one, or is a beginning of it.
abbrev pub IsBeginning : Newer → Files → List ℕ → Type 0
IsBeginning newer files name = (t : TileAt) (bytes : List ℕ) → IsNarrower t (tile_of newer) → path_beside newer t ≡ name
    → files name ≡ Some bytes → bytes ≡ beginning newer t.width

-- What is left of narrower tiles in the place of one, or of narrower bundles in the place of one, has its first bytes.
abbrev pub HasNarrower : Files → TileAt × List (List ℕ) → Type 0
HasNarrower files newer = (t : TileAt) (bytes : List ℕ) → IsNarrower t newer.0 → files (tile_path t) ≡ Some bytes
    → bytes ≡ flat_map (λ digest. digest) (take t.width newer.1)

abbrev pub HasNarrowerBundles : Files → ℕ → List (List ℕ) → Type 0
HasNarrowerBundles files number entries = (t : TileAt) (bytes : List ℕ)
    → IsNarrower t (record { level = 0; number = number; width = length entries })
    → files (entries_path t) ≡ Some bytes → bytes ≡ bundle_of (take t.width entries)

-- What is left in the place of a log's full tiles, and of its bundles, has the log's bytes.
pub record HasOlderBelow (log : LogOf) (files : Files) : Type 0 where
  pub tile : (t newer : TileAt) (bytes : List ℕ) → IsTileIn log newer → newer.width ≡ 256 → IsNarrower t newer
      → files (tile_path t) ≡ Some bytes → bytes ≡ tile_bytes log t
  pub bundle : (t newer : TileAt) (bytes : List ℕ) → IsBundleIn log newer → IsNarrower t newer
      → files (entries_path t) ≡ Some bytes → bytes ≡ bundle_bytes log t
