-- A registry in a folder: its log's files, and the pages of its map.
use Rattle.std.specs.Prelude.{◌≡◌, ℕ, ◌<◌, ◌++◌, ◌⊎◌, Bool, true, false, List, [], ◌∷◌, length, map, take, Option, Some, None, unwrap_or}
use Rattle.std.specs.Fmt.{decimal}
use Rattle.std.specs.List.{Contains, flat_map, filter, slice_index_or}
use Rattle.std.specs.Option.{option_map}
use Rattle.warg_crypto.specs.Digests.{sha256}
use Rattle.warg_map.specs.Sparse.{map_of, sparse_root}
use Rattle.warg_pages.specs.ChangedPages.{ChangedPageAt}
use Rattle.warg_pages.specs.OwnPages.{stands}
use Rattle.warg_pages.specs.PageBytes.{page_bytes}
use Rattle.warg_pages.specs.PagePaths.{byte_path, page_path}
use Rattle.warg_pages.specs.Prefixes.{bits_of_bytes, version}
use Rattle.warg_pages.specs.Slots.{numbers, page_of}
use Rattle.warg_folder.specs.Files.{File, Files}
use Rattle.warg_store.specs.Growing.{LogIn, Has, IsFresh, with_page}
use Rattle.warg_store.specs.Log.{LogOf}
use Rattle.warg_folder.specs.Moments.{IsRead}
use Rattle.warg_store.specs.Refusals as log
use Rattle.warg_registry.specs.declared.error.RegistryError.{RegistryError}
use Rattle.warg_registry.specs.declared.error.RegistryError.TheVariants.{NoMap, Log}
use Rattle.warg_registry.specs.Insertions.{entries_of}
use Rattle.warg_registry.specs.Registry.{line_of}

-- The path below `map/` of the page at a prefix, of a version.
abbrev pub path_below : List ℕ → ℕ → List ℕ
path_below prefix number = flat_map byte_path prefix ++ decimal number

-- The page of insertions at a prefix, as a file below `map/`.
abbrev pub page_file : List (List ℕ × List ℕ) → List ℕ → File
page_file insertions prefix = (
  path_below prefix (version sha256 insertions (bits_of_bytes prefix)),
  page_bytes (page_of sha256 insertions (bits_of_bytes prefix)),
)

-- The prefixes on the way of a key digest at which a page of the insertions stands: its first bytes, none to 31.
abbrev pub prefixes_on_way : List (List ℕ × List ℕ) → List ℕ → List (List ℕ)
prefixes_on_way insertions digest =
    filter (λ p. stands sha256 insertions (bits_of_bytes p)) (map (λ depth. take depth digest) (numbers 0 32))

-- The pages of insertions, as files.
abbrev pub pages_of : List (List ℕ × List ℕ) → List File
pages_of insertions =
    flat_map (λ e. map (page_file insertions) (prefixes_on_way insertions (sha256 e.0))) insertions

-- A registry of insertions, as a log: that of their entries, with the root of their map in the checkpoint's further
-- line, and the map's pages.
abbrev pub registry_of : List ℕ → List (List ℕ × List ℕ) → LogOf
registry_of origin insertions = record {
  origin = origin;
  entries = entries_of insertions;
  lines = line_of (sparse_root sha256 256 (map_of sha256 insertions)) ∷ [];
  pages = pages_of insertions;
}

-- The bytes of a page that a reader finds, but no more than one above the most that a page has: 256 slots of 106 bytes.
abbrev pub page_found : Files → List ℕ → ℕ → Option (List ℕ)
page_found files prefix number = option_map (take 27137) (files (page_path prefix number))

-- The bytes that are read as a page: those that are found, or, where a file is missing, one byte, as no page has.
abbrev pub page_read : Files → List ℕ → ℕ → Option (List ℕ)
page_read files prefix number = Some (unwrap_or (page_found files prefix number) (0 ∷ []))

-- What is found where a device is known to be faithful; else nothing is said.
abbrev pub found_if : Bool → (List ℕ → ℕ → Option (List ℕ)) → List ℕ → ℕ → Option (List ℕ)
found_if true found = found
found_if false found = λ prefix number. None

-- A registry in memory: its log, whether it takes insertions, and the map's root and version.
pub record RegistryIn (F : Type 0) : Type 0 where
  pub log : LogIn F
  pub takes : Bool
  pub root : List ℕ
  pub count : ℕ

-- The registry's folder keeps the insertions `kept`, and serves `served`, a beginning of them.
pub record HasRegistry {F : Type 0} (seen : F → Files) (may_leave : F → Files → Type 0) (origin : List ℕ)
    (served kept : List (List ℕ × List ℕ)) (r : RegistryIn F) : Type 0 where
  pub takes : r.takes ≡ true
  pub log : Has seen may_leave (registry_of origin served) (registry_of origin kept) (registry_of origin kept) r.log
  pub root : r.root ≡ sparse_root sha256 256 (map_of sha256 kept)
  pub count : r.count ≡ length kept

-- The log was only read since.
pub record IsLogRead {F : Type 0} (seen : F → Files) (may_leave : F → Files → Type 0) (moment : F → ℕ)
    (left_since : F → ℕ → Files → Type 0) (old new : LogIn F) : Type 0 where
  pub same : new ≡ record old { folder = new.folder }
  pub read : IsRead seen may_leave moment left_since old.folder new.folder

-- Each log that was only read before is only read further.
abbrev pub ReadsOn : {F : Type 0} → (F → Files) → (F → Files → Type 0) → (F → ℕ) → (F → ℕ → Files → Type 0) → LogIn F
    → LogIn F → Type 0
ReadsOn {F = F} seen may_leave moment left_since old new = (known : LogIn F)
    → IsLogRead seen may_leave moment left_since known old → IsLogRead seen may_leave moment left_since known new

-- A log with further entries.
abbrev pub with_entries : LogOf → List (List ℕ) → LogOf
with_entries log entries = record log { entries = log.entries ++ entries }

-- And with further pages.
abbrev pub with_pages : LogOf → List File → LogOf
with_pages log [] = log
with_pages log (f ∷ fs) = with_pages (with_page log f) fs

-- A page that is handed out, as a file below `map/`.
abbrev pub file_of : ChangedPageAt → File
file_of c = (path_below c.prefix c.version, page_bytes c.page)

-- All of them.
abbrev pub files_of : List ChangedPageAt → List File
files_of changed = map file_of changed

-- Files are put one after the other, each at a fresh path.
abbrev pub AreFresh : LogOf → LogOf → LogOf → List File → Type 0
AreFresh served old next files = (i : ℕ) (d : File) → i < length files
    → IsFresh served old (with_pages next (take i files)) (slice_index_or files i d).0

-- Why a registry isn't opened, where its folder has one: memory was refused, or the device failed.
abbrev pub IsNoFault : RegistryError → Type 0
IsNoFault NoMap = ⊥
IsNoFault (Log error) = log.IsNoFault ⊥ error

-- The next log has these entries more, these pages more or in the place of old ones, and the root of its map in its
-- further line.
pub record IsNextLog (old next : LogOf) (entries : List (List ℕ)) (files : List File) (map_root : List ℕ) : Type 0 where
  pub some : 0 < length entries
  pub origin : next.origin ≡ old.origin
  pub entries_are : next.entries ≡ old.entries ++ entries
  pub lines : next.lines ≡ line_of map_root ∷ []
  pub new : (f : File) → Contains files f → Contains next.pages f
  pub each : (f : File) → Contains next.pages f → Contains old.pages f ⊎ Contains files f
