-- A log's entries as files.
use Rattle.std.specs.Prelude.{◌≡◌, ◌⊎◌, ℕ, ◌*◌, ◌^◌, ◌<◌, ◌≤◌, true, false, List, [], ◌∷◌, ◌++◌, length, take, drop, Option, Some, None, IsSome}
use Rattle.std.specs.List.{AllByRecursion, Contains, flat_map}
use Rattle.warg_crypto.specs.Digests.{sha256}
use Rattle.warg_log.specs.Tree.{root_of, leaves_of}
use Rattle.warg_tiles.specs.Tiles.{TileAt}
use Rattle.warg_tiles.specs.TilePaths.{tile_path, entries_path}
use Rattle.warg_tiles.specs.Between.{IsTileOf}
use Rattle.warg_tiles.specs.TileLog.{tile_digests}
use Rattle.warg_tiles.specs.EntryBundles.{bundle_of}
use Rattle.warg_tiles.specs.CheckpointText.{Said, IsLine, text_of, text_before}
use Rattle.warg_folder.specs.Files.{File, Files}
use Rattle.warg_folder.specs.Names.{checkpoint, state, staged, is_tile, page_name, is_served}
use Rattle.warg_folder.specs.Commits.{is_signed, opened}

-- A log: its origin, its entries, the further lines of its checkpoint's text, and its pages, which are files beside its tiles
-- and bundles: each with its path below `map/`, and its bytes.
pub record LogOf : Type 0 where
  pub origin : List ℕ
  pub entries : List (List ℕ)
  pub lines : List (List ℕ)
  pub pages : List File

-- The log of no entries with this origin.
abbrev pub no_entries : List ℕ → LogOf
no_entries origin = record { origin = origin; entries = []; lines = []; pages = [] }

-- The same with these further lines in its checkpoint's text.
abbrev pub no_entries_with : List ℕ → List (List ℕ) → LogOf
no_entries_with origin lines = record (no_entries origin) { lines = lines }

-- What the log's checkpoint says.
abbrev pub said_of : LogOf → Said
said_of log = record {
  origin = log.origin;
  length = length log.entries;
  root = root_of sha256 (leaves_of sha256 log.entries);
  extensions = log.lines;
}

-- The checkpoint's text.
abbrev pub checkpoint_of : LogOf → List ℕ
checkpoint_of log = text_of (said_of log)

-- Entries that bundles can have: each has at most 65,535 bytes.
abbrev pub AreShort : List (List ℕ) → Type 0
AreShort entries = AllByRecursion (λ entry. length entry < 65536) entries

-- A log that a folder can keep: its origin and further lines are lines, it has at most 2 ^ 63 short entries, and its
-- checkpoint's text has at most 2 ^ 20 bytes.
pub record CanBeKept (log : LogOf) : Type 0 where
  pub origin : IsLine log.origin
  pub lines : AllByRecursion IsLine log.lines
  pub most : length log.entries ≤ 2 ^ 63
  pub short : AreShort log.entries
  pub text : length (checkpoint_of log) ≤ 2 ^ 20

-- The note is the text, an empty line and something behind it.
abbrev pub IsNoteOf : List ℕ → List ℕ → Type 0
IsNoteOf text note = (first : ℕ) × (behind : List ℕ) × (note ≡ text ++ (10 ∷ first ∷ behind))

-- The bytes of a tile: its digests, one after the other.
abbrev pub tile_bytes : LogOf → TileAt → List ℕ
tile_bytes log t = flat_map (λ digest. digest) (tile_digests sha256 (leaves_of sha256 log.entries) t)

-- The bytes of the bundle of the entries below a tile of level 0.
abbrev pub bundle_bytes : LogOf → TileAt → List ℕ
bundle_bytes log t = bundle_of (take t.width (drop (256 * t.number) log.entries))

-- The tile is one of the log. A length up to 2 ^ 63 has eight levels.
pub record IsTileIn (log : LogOf) (t : TileAt) : Type 0 where
  pub level : t.level < 8
  pub exists : IsTileOf (length log.entries) t

-- The tile is of level 0, and one of the log.
pub record IsBundleIn (log : LogOf) (t : TileAt) : Type 0 where
  pub level : t.level ≡ 0
  pub exists : IsTileOf (length log.entries) t

-- The files have each tile and bundle of the log's length at its path, with the bytes of the log's entries, and its pages.
pub record HasFiles (log : LogOf) (files : Files) : Type 0 where
  pub tile : (t : TileAt) → IsTileIn log t → files (tile_path t) ≡ Some (tile_bytes log t)
  pub bundle : (t : TileAt) → IsBundleIn log t → files (entries_path t) ≡ Some (bundle_bytes log t)
  pub page : (f : File) → Contains log.pages f → files (page_name f.0) ≡ Some f.1

-- A folder serves a log where it has the checkpoint's text, with whatever signatures behind an empty line, and the log's
-- files.
pub record Serves (log : LogOf) (files : Files) : Type 0 where
  pub can : CanBeKept log
  pub checkpoint : (behind : Option (List ℕ)) × (files checkpoint ≡ Some (text_before (said_of log) behind))
  pub holds : HasFiles log files

-- The name is that of a tile, a bundle or a page of the log.
abbrev pub IsFileOf : LogOf → List ℕ → Type 0
IsFileOf log n = ((t : TileAt) × IsTileIn log t × (tile_path t ≡ n))
    ⊎ ((t : TileAt) × IsBundleIn log t × (entries_path t ≡ n))
    ⊎ ((f : File) × Contains log.pages f × (page_name f.0 ≡ n))

-- The next log has further entries behind those of the old one. Where it has none, it is the old one.
pub record Extends (old next : LogOf) : Type 0 where
  pub origin : next.origin ≡ old.origin
  pub entries : (more : List (List ℕ)) × (next.entries ≡ old.entries ++ more)
  pub still : length next.entries ≡ length old.entries → (next.lines ≡ old.lines) × (next.pages ≡ old.pages)

-- A folder keeps a log, and serves a beginning of it: its state is the log's checkpoint, its tiles and bundles are there, and
-- unless the checkpoint is signed, it serves the log itself.
pub record Keeps (served log : LogOf) (files : Files) : Type 0 where
  pub can : CanBeKept log
  pub state : files state ≡ Some (checkpoint_of log)
  pub holds : HasFiles log files
  pub serves : Serves served files
  pub begins : Extends served log
  pub newest : is_signed (files checkpoint) ≡ false → served ≡ log

-- A folder has a log: it keeps the log, or has no state and serves the log.
abbrev pub HasLog : LogOf → LogOf → Files → Type 0
HasLog served log files = Keeps served log files ⊎ ((served ≡ log) × (files state ≡ None) × Serves log files)

-- The files serve a log, and opening them changes none of its tiles and bundles.
pub record IsServed (log : LogOf) (files : Files) : Type 0 where
  pub serves : Serves log files
  pub stay : (n : List ℕ) → IsFileOf log n → opened files n ≡ files n

-- The state's text is a log's.
pub record HasState (log : LogOf) (files : Files) : Type 0 where
  pub can : CanBeKept log
  pub text : files state ≡ Some (checkpoint_of log)

-- The folder keeps the next log, and serves it, or the one that was served.
abbrev pub KeepsNext : LogOf → LogOf → Files → Type 0
KeepsNext served next files = (log : LogOf) × ((log ≡ served) ⊎ (log ≡ next)) × Keeps log next files

-- What a commit's crash leaves: who reads the files finds the log that was served or the next one, and the old one's
-- state or the next one's; opened they keep the old one or the next one.
pub record IsOneOf (served old next : LogOf) (files : Files) : Type 0 where
  pub read : IsServed served files ⊎ IsServed next files
  pub state : HasState old files ⊎ HasState next files
  pub opened : Keeps served old (opened files) ⊎ KeepsNext served next (opened files)

-- The name is that of a tile or of a bundle which the next log has and the old one hasn't.
abbrev pub IsNewTile : LogOf → LogOf → List ℕ → Type 0
IsNewTile old next n = ((t : TileAt) × IsTileIn next t × (IsTileIn old t → ⊥) × (tile_path t ≡ n))
    ⊎ ((t : TileAt) × IsBundleIn next t × (IsBundleIn old t → ⊥) × (entries_path t ≡ n))

-- One of the pages has this path.
abbrev pub HasPage : List File → List ℕ → Type 0
HasPage pages path = (bytes : List ℕ) × Contains pages (path, bytes)

-- The name is that of one of the next pages, and none of the old ones has its path.
abbrev pub IsNewPage : List File → List File → List ℕ → Type 0
IsNewPage old next n = (f : File) × Contains next f × (HasPage old f.0 → ⊥) × (page_name f.0 ≡ n)

-- The name is that of a file which the next log has and the old one hasn't.
abbrev pub IsNewName : LogOf → LogOf → List ℕ → Type 0
IsNewName old next n = IsNewTile old next n ⊎ IsNewPage old.pages next.pages n

-- What a commit's crash leaves of files: who reads or opens them finds the one log or the next, and each name at which commits
-- put files has its bytes, but for those of files that the next log has and the old one hasn't.
pub record IsCommitting (served old next : LogOf) (before after : Files) : Type 0 where
  pub one : IsOneOf served old next after
  pub names : (n : List ℕ) → is_served n ≡ true → (IsNewName old next n → ⊥) → after n ≡ before n

-- Each of the next pages is an old one, or is staged at a path that neither an old nor a served page has; and no other page is
-- staged.
pub record ArePagesStaged (served old next : List File) (files : Files) : Type 0 where
  pub page : (f : File) → Contains next f → Contains old f ⊎ ((HasPage old f.0 → ⊥)
      × (HasPage served f.0 → ⊥) × (files (staged (page_name f.0)) ≡ Some f.1))
  pub nothing_else : (path : List ℕ) → IsSome (files (staged (page_name path))) → IsNewPage old next (page_name path)

-- What is staged are the files that the next log has and the old one hasn't, with their bytes.
pub record AreStagedFor (served old next : LogOf) (files : Files) : Type 0 where
  pub tile : (t : TileAt) → IsTileIn next t → (IsTileIn old t → ⊥)
      → files (staged (tile_path t)) ≡ Some (tile_bytes next t)
  pub bundle : (t : TileAt) → IsBundleIn next t → (IsBundleIn old t → ⊥)
      → files (staged (entries_path t)) ≡ Some (bundle_bytes next t)
  pub nothing_else : (n : List ℕ) → is_tile n ≡ true → IsSome (files (staged n)) → IsNewTile old next n
  pub pages : ArePagesStaged served.pages old.pages next.pages files
