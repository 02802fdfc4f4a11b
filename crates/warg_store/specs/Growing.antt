-- A log that grows in a folder.
use Rattle.std.specs.Prelude.{◌≡◌, ◌⊎◌, ℕ, ◌+◌, ◌*◌, ◌/◌, ◌<◌, ◌≤◌, Bool, true, false, List, [], ◌∷◌, ◌++◌, length, map, drop, Some, IsSome}
use Rattle.warg_crypto.specs.Digests.{sha256}
use Rattle.warg_log.specs.Tree.{leaves_of}
use Rattle.warg_tiles.specs.Tiles.{TileAt}
use Rattle.warg_tiles.specs.TilePaths.{tile_path, entries_path}
use Rattle.warg_tiles.specs.Between.{IsTileOf}
use Rattle.warg_crypto.specs.declared.hash.Sha256.{Sha256}
use Rattle.std.specs.declared.alloc.Global.{Global}
use Rattle.warg_tiles.specs.declared.stored.StoredTile.{StoredTile}
use Rattle.warg_tiles.specs.TileLog.{RightEdge, StandsFor, AreTilesOf, partial_tiles}
use Rattle.warg_tiles.specs.EntryBundles.{bundle_of}
use Rattle.warg_tiles.specs.CheckpointText.{Said}
use Rattle.warg_store.specs.declared.log_folder.CommitError.{CommitError}
use Rattle.warg_store.specs.declared.log_folder.CommitError.TheVariants.{Closed, TooLong, Memory, Folder}
use Rattle.warg_folder.specs.Files.{File, Files}
use Rattle.warg_folder.specs.Names.{staged, is_tile}
use Rattle.warg_folder.specs.Commits.{IsStaging}
use Rattle.warg_store.specs.Log.{LogOf, AreShort, CanBeKept, said_of, checkpoint_of, tile_bytes, bundle_bytes, Extends, Keeps, HasPage, ArePagesStaged, AreStagedFor}

-- A log with one entry more.
abbrev pub with_entry : LogOf → List ℕ → LogOf
with_entry log entry = record log { entries = log.entries ++ entry ∷ [] }

-- A log with one page more.
abbrev pub with_page : LogOf → File → LogOf
with_page log f = record log { pages = f ∷ log.pages }

-- No page has this path, served, kept or to be kept, and there are entries that aren't kept yet.
pub record IsFresh (served old next : LogOf) (path : List ℕ) : Type 0 where
  pub more : length old.entries < length next.entries
  pub not_served : HasPage served.pages path → ⊥
  pub not_kept : HasPage old.pages path → ⊥
  pub not_next : HasPage next.pages path → ⊥

-- A folder's log in memory: the folder, what the text of its state says, whether the log takes pushes and commits, the
-- right edge of all that was pushed, and the last entries, which are in no bundle yet, with their number.
pub record LogIn (F : Type 0) : Type 0 where
  pub folder : F
  pub text : Said
  pub is_open : Bool
  pub edge : RightEdge
  pub bundle : List ℕ
  pub held : ℕ

-- While the log takes pushes and commits, its folder is ready for them: a crash leaves what is seen, but for staged files.
abbrev pub IsReady : {F : Type 0} → (F → Files) → (F → Files → Type 0) → LogIn F → Type 0
IsReady seen may_leave l = l.is_open ≡ true → IsStaging (seen l.folder) (may_leave l.folder)

-- The log has the same entries, keeps the same ones, and takes more or not as before.
pub record IsSameBut {F : Type 0} (old new : LogIn F) : Type 0 where
  pub text : new.text ≡ old.text
  pub is_open : new.is_open ≡ old.is_open
  pub length : new.edge.len ≡ old.edge.len

-- A full tile of a length that an older length hasn't.
pub record IsNewFull (older length : ℕ) (t : TileAt) : Type 0 where
  pub full : t.width ≡ 256
  pub exists : IsTileOf length t
  pub new : IsTileOf older t → ⊥

-- The name is that of such a tile, or of the bundle below one of level 0.
abbrev pub IsNewFullName : ℕ → ℕ → List ℕ → Type 0
IsNewFullName older length n = ((t : TileAt) × (t.level < 8) × IsNewFull older length t × (tile_path t ≡ n)) ⊎ ((t : TileAt) × (t.level ≡ 0) × IsNewFull older length t × (entries_path t ≡ n))

-- The new full tiles of a length are staged, and the bundles below them, with the bytes of the log's entries; and no other tiles
-- and bundles than new full ones of the log are.
pub record AreFullStaged (older taken : ℕ) (log : LogOf) (files : Files) : Type 0 where
  pub tile : (t : TileAt) → t.level < 8 → IsNewFull older taken t → files (staged (tile_path t)) ≡ Some (tile_bytes log t)
  pub bundle : (t : TileAt) → t.level ≡ 0 → IsNewFull older taken t → files (staged (entries_path t)) ≡ Some (bundle_bytes log t)
  pub nothing_else : (n : List ℕ) → is_tile n ≡ true → IsSome (files (staged n))
      → IsNewFullName older (length log.entries) n

-- The log has the entries of `next`. Its folder keeps those of `old` and serves those of `served`, and beside that has staged
-- what the entries filled.
pub record Has {F : Type 0} (seen : F → Files) (may_leave : F → Files → Type 0) (served old next : LogOf) (l : LogIn F) : Type 0 where
  pub is_open : l.is_open ≡ true
  pub keeps : Keeps served old (seen l.folder)
  pub extends : Extends old next
  pub short : AreShort next.entries
  pub text : l.text ≡ said_of old
  pub edge : StandsFor sha256 l.edge (leaves_of sha256 next.entries)
  pub since : l.text.length ≤ l.edge.taken
  pub order : l.edge.taken ≤ l.edge.len
  pub held : 256 * (l.edge.taken / 256) + l.held ≡ l.edge.len
  pub most : l.held ≤ 256
  pub bundle : l.bundle ≡ bundle_of (drop (256 * (l.edge.taken / 256)) next.entries)
  pub staged : AreFullStaged l.text.length l.edge.taken next (seen l.folder)
  pub pages : ArePagesStaged served.pages old.pages next.pages (seen l.folder)
  pub staging : IsStaging (seen l.folder) (may_leave l.folder)

-- The tiles are the partial ones of the log's length, with its digests.
abbrev pub ArePartsOf : LogOf → List (StoredTile Sha256 Global) → Type 0
ArePartsOf log tiles = AreTilesOf sha256 (leaves_of sha256 log.entries) (partial_tiles (length log.entries)) (map (λ t. (t.tile, t.digests.items)) tiles)

-- The log has the entries of `next`, and all its files that the old log hasn't are staged.
pub record HasAll {F : Type 0} (seen : F → Files) (may_leave : F → Files → Type 0) (served old next : LogOf) (l : LogIn F) : Type 0 where
  pub is_open : l.is_open ≡ true
  pub keeps : Keeps served old (seen l.folder)
  pub extends : Extends old next
  pub short : AreShort next.entries
  pub edge : StandsFor sha256 l.edge (leaves_of sha256 next.entries)
  pub held : 256 * (l.edge.len / 256) + l.held ≡ l.edge.len
  pub bundle : l.bundle ≡ bundle_of (drop (256 * (l.edge.len / 256)) next.entries)
  pub staged : AreStagedFor served old next (seen l.folder)
  pub staging : IsStaging (seen l.folder) (may_leave l.folder)

-- These are the text of a log's checkpoint, the same in bytes, and the log's partial tiles.
pub record IsEndOf (next : LogOf) (said : Said) (text : List ℕ) (parts : List (StoredTile Sha256 Global)) : Type 0 where
  pub can : CanBeKept next
  pub says : said ≡ said_of next
  pub bytes : text ≡ checkpoint_of next
  pub tiles : ArePartsOf next parts

-- The log's folder keeps the next log, and serves it, or the one that was served.
abbrev pub HasNext : {F : Type 0} → (F → Files) → (F → Files → Type 0) → LogOf → LogOf → LogIn F → Type 0
HasNext seen may_leave served next l =
    (log : LogOf) × ((log ≡ served) ⊎ (log ≡ next)) × Has seen may_leave log next next l

-- The same, where the next checkpoint's text is still to be noted.
abbrev pub IsPut : {F : Type 0} → (F → Files) → (F → Files → Type 0) → LogOf → LogOf → LogIn F → Type 0
IsPut seen may_leave served next l = HasNext seen may_leave served next (record l { text = said_of next })

-- What a refused commit leaves: the log as it was, unless the folder refused a call, and else a log that takes no more.
abbrev pub IsRefusedBy : {F : Type 0} → CommitError → LogIn F → LogIn F → Type 0
IsRefusedBy Closed old new = new ≡ old
IsRefusedBy TooLong old new = new ≡ old
IsRefusedBy Memory old new = new ≡ old
IsRefusedBy (Folder cause) old new = new.is_open ≡ false
