-- What becomes of a folder as the tiles over its entries are made again: they are compared, or staged.
use Rattle.std.specs.Prelude.{◌≡◌, ◌≢◌, ◌⊎◌, ◌^◌, ◌≤◌, ℕ, false, List, length, Some}
use Rattle.std.specs.List.{AllByRecursion}
use Rattle.warg_crypto.specs.Digests.{sha256}
use Rattle.warg_log.specs.Tree.{leaves_of}
use Rattle.warg_tiles.specs.Tiles.{TileAt}
use Rattle.warg_tiles.specs.CheckpointText.{Said}
use Rattle.warg_tiles.specs.TileData.{Tiles}
use Rattle.warg_tiles.specs.TileLog.{RightEdge, StandsFor}
use Rattle.warg_tiles.specs.TilePaths.{tile_path}
use Rattle.warg_folder.specs.Files.{Files}
use Rattle.warg_folder.specs.Names.{staged, is_staged}
use Rattle.warg_folder.specs.Moments.{IsRead, LeavesOnly}
use Rattle.warg_folder.specs.Commits.{IsBeside, IsStaging, IsBetween}
use Rattle.warg_store.specs.Audited.{log_of, HasOlder}
use Rattle.warg_store.specs.Log.{LogOf, AreShort, IsTileIn, tile_bytes}
use Rattle.warg_store.specs.Rebuilt.{HasBundlesOf, IsRebuilt}
use Rattle.warg_store.specs.Staged.{staged_all, new_files}
use Rattle.warg_store.specs.Private.Compared.{HasTiles, HasNarrower, HasOlderBelow, IsWhole}
use Rattle.warg_store.specs.declared.auditing.Use.{Use}
use Rattle.warg_store.specs.declared.auditing.Use.TheVariants.{Compare, Stage}

-- Where the file of a path stands once it is used.
abbrev pub place_of : Use → List ℕ → List ℕ
place_of Compare path = path
place_of Stage path = staged path

-- Files can be staged in a folder, where they are to be.
abbrev pub IsReadyFor : Use → Files → (Files → Type 0) → Type 0
IsReadyFor Compare seen may_leave = Unit {0}
IsReadyFor Stage seen may_leave = IsStaging seen may_leave

-- Files were staged in a folder, and nothing else was done.
pub record IsStagedIn {D : Type 0} (seen : D → Files) (may_leave : D → Files → Type 0) (moment : D → ℕ)
    (left_since : D → ℕ → Files → Type 0) (old new : D) : Type 0 where
  pub staging : IsStaging (seen new) (may_leave new)
  pub run : LeavesOnly moment left_since old new (IsBeside (seen old))

-- A folder was used: it was only read, or files were staged in it.
abbrev pub IsUsed : {D : Type 0} → Use → (D → Files) → (D → Files → Type 0) → (D → ℕ) → (D → ℕ → Files → Type 0) → D
    → D → Type 0
IsUsed Compare seen may_leave moment left_since old new = IsRead seen may_leave moment left_since old new
IsUsed Stage seen may_leave moment left_since old new = IsStagedIn seen may_leave moment left_since old new

-- Tiles were used: the files have each of them, or each of them was staged.
abbrev pub AreUsed : Use → Tiles → Files → Files → Type 0
AreUsed Compare tiles old new = (new ≡ old) × HasTiles old tiles × AllByRecursion (HasNarrower old) tiles
AreUsed Stage tiles old new = new ≡ staged_all (new_files 0 tiles) old

-- The files have what a use needs of a log of short entries: each bundle, and where they are compared each tile, and of
-- older ones no others.
pub record IsEnough (how : Use) (log : LogOf) (files : Files) : Type 0 where
  pub most : length log.entries ≤ 2 ^ 63
  pub short : AreShort log.entries
  pub bundle : HasBundlesOf log files
  pub whole : how ≡ Compare → IsWhole log files

-- The log in memory stands for so many short entries, of which the first files have each bundle. Each full tile was used,
-- and nothing else is changed.
pub record HasUsed (how : Use) (first now : Files) (size : ℕ) (edge : RightEdge) : Type 0 where
  pub entries : List (List ℕ)
  pub count : length entries ≡ size
  pub short : AreShort entries
  pub stands : StandsFor sha256 edge (leaves_of sha256 entries)
  pub taken : edge.taken ≡ edge.len
  pub bundle : HasBundlesOf (log_of entries) first
  pub tile : (t : TileAt) → IsTileIn (log_of entries) t → t.width ≡ 256
      → now (place_of how (tile_path t)) ≡ Some (tile_bytes (log_of entries) t)
  pub older : how ≡ Compare → HasOlderBelow (log_of entries) first
  pub other : (n : List ℕ) → ((t : TileAt) → IsTileIn (log_of entries) t → t.width ≡ 256 → tile_path t ≢ n)
      → now (place_of how n) ≡ first (place_of how n)
  pub outside : (n : List ℕ) → is_staged n ≡ false → now n ≡ first n

-- The same of all tiles, the partial ones, too.
pub record HasUsedAll (how : Use) (first now : Files) (edge : RightEdge) : Type 0 where
  pub entries : List (List ℕ)
  pub short : AreShort entries
  pub stands : StandsFor sha256 edge (leaves_of sha256 entries)
  pub bundle : HasBundlesOf (log_of entries) first
  pub tile : (t : TileAt) → IsTileIn (log_of entries) t
      → now (place_of how (tile_path t)) ≡ Some (tile_bytes (log_of entries) t)
  pub older : how ≡ Compare → HasOlder (log_of entries) first
  pub other : (n : List ℕ) → ((t : TileAt) → IsTileIn (log_of entries) t → tile_path t ≢ n)
      → now (place_of how n) ≡ first (place_of how n)
  pub outside : (n : List ℕ) → is_staged n ≡ false → now n ≡ first n

-- What a crash leaves while tiles are made again where nothing else is staged: they are staged, or committed.
abbrev pub IsRemaking : Said → Files → Files → Type 0
IsRemaking said old c = IsBeside old c ⊎ ((next : Files) × IsRebuilt said old next × IsBetween old next c)
