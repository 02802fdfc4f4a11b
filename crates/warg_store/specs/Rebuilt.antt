-- What making a log's tiles again takes and leaves.
use Rattle.std.specs.Prelude.{◌≡◌, ◌≢◌, ◌⊎◌, ℕ, List, Option, Some}
use Rattle.warg_tiles.specs.Tiles.{TileAt}
use Rattle.warg_tiles.specs.TilePaths.{tile_path, entries_path}
use Rattle.warg_tiles.specs.CheckpointText.{Said, text_of, text_before}
use Rattle.warg_folder.specs.Files.{Files}
use Rattle.warg_folder.specs.Names.{state}
use Rattle.warg_folder.specs.Commits.{opened, told, IsBetween}
use Rattle.warg_store.specs.Log.{LogOf, AreShort, IsTileIn, IsBundleIn, said_of, tile_bytes, bundle_bytes}
use Rattle.warg_store.specs.Opening.{CanBeServed}
use Rattle.warg_store.specs.Reading.{checkpoint_said}

-- The files have each bundle of the log's length, with the bytes of its entries.
abbrev pub HasBundlesOf : LogOf → Files → Type 0
HasBundlesOf log files = (t : TileAt) → IsBundleIn log t → files (entries_path t) ≡ Some (bundle_bytes log t)

-- Where a checkpoint's text stands in the state, with whatever behind it, this is what it says.
abbrev pub IsStated : Said → Files → Type 0
IsStated said files = (other : Said) (behind : Option (List ℕ)) → CanBeServed other
    → files state ≡ Some (text_before other behind) → said ≡ other

-- The tiles of a log were made again: of the one that the state tells of, whose bundles the files have. Each tile has the
-- log's bytes, the text is told, and each other file is as it was.
pub record IsRebuilt (said : Said) (old new : Files) : Type 0 where
  pub stated : IsStated said old
  pub log : LogOf
  pub says : checkpoint_said said ≡ checkpoint_said (said_of log)
  pub short : AreShort log.entries
  pub bundle : HasBundlesOf log old
  pub tile : (t : TileAt) → IsTileIn log t → new (tile_path t) ≡ Some (tile_bytes log t)
  pub other : (n : List ℕ) → ((t : TileAt) → IsTileIn log t → tile_path t ≢ n) → new n ≡ told (text_of said) old n

-- What a crash leaves meanwhile: files between the old ones and those that they stand for, or between these and the
-- same with the tiles made again.
abbrev pub IsRebuilding : Files → Files → Type 0
IsRebuilding old c = IsBetween old (opened old) c
    ⊎ ((said : Said) × (next : Files) × IsRebuilt said (opened old) next × IsBetween (opened old) next c)
