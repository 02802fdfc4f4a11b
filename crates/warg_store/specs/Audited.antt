-- What an audit that passes has found: entries whose tree has the checkpoint's root.
use Rattle.std.specs.Prelude.{◌≡◌, ℕ, ◌<◌, ◌≤◌, List, [], length, Some}
use Rattle.warg_crypto.specs.Digests.{sha256}
use Rattle.warg_log.specs.Claims.{RootAndLength}
use Rattle.warg_log.specs.Tree.{root_of, leaves_of}
use Rattle.warg_tiles.specs.Between.{IsTileOf}
use Rattle.warg_tiles.specs.TileLog.{RightEdge, StandsFor}
use Rattle.warg_tiles.specs.TilePaths.{tile_path, entries_path}
use Rattle.warg_tiles.specs.Tiles.{TileAt}
use Rattle.warg_folder.specs.Files.{Files}
use Rattle.warg_store.specs.Log.{LogOf, AreShort, HasFiles, no_entries, said_of, tile_bytes, bundle_bytes}
use Rattle.warg_store.specs.Reading.{checkpoint_said}

-- The log stands for the leaf digests of some entries.
abbrev pub HasEntries : RightEdge → Type 0
HasEntries log = (entries : List (List ℕ)) × StandsFor sha256 log (leaves_of sha256 entries)

-- Some entries, as many as the checkpoint has, are those of a tree with its root (RFC 6962, section 2.1).
abbrev pub IsOfEntries : RootAndLength → Type 0
IsOfEntries checkpoint = (entries : List (List ℕ)) × (length entries ≡ checkpoint.length) × (root_of sha256 (leaves_of sha256 entries) ≡ checkpoint.root)

-- The log of these entries, and nothing else.
abbrev pub log_of : List (List ℕ) → LogOf
log_of entries = record (no_entries []) { entries = entries }

-- The checkpoint is that of a log with short entries, of which the files have each tile and each bundle.
abbrev pub ShowsLog : Files → RootAndLength → Type 0
ShowsLog files checkpoint = (log : LogOf) × (checkpoint ≡ checkpoint_said (said_of log)) × AreShort log.entries × HasFiles log files

-- What stands at the path of a tile or bundle of the log's length or an older one has the log's bytes.
pub record HasOlder (log : LogOf) (files : Files) : Type 0 where
  pub tile : (n : ℕ) (t : TileAt) (bytes : List ℕ) → n ≤ length log.entries → t.level < 8 → IsTileOf n t
      → files (tile_path t) ≡ Some bytes → bytes ≡ tile_bytes log t
  pub bundle : (n : ℕ) (t : TileAt) (bytes : List ℕ) → n ≤ length log.entries → t.level ≡ 0 → IsTileOf n t
      → files (entries_path t) ≡ Some bytes → bytes ≡ bundle_bytes log t

-- The same of the log's files and of those that are left of older lengths.
abbrev pub ShowsLogAndOlder : Files → RootAndLength → Type 0
ShowsLogAndOlder files checkpoint = (log : LogOf) × (checkpoint ≡ checkpoint_said (said_of log)) × AreShort log.entries × HasFiles log files × HasOlder log files
