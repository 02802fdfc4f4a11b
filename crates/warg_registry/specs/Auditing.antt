-- What an audit of a registry finds.
use Rattle.std.specs.Prelude.{◌≡◌, ℕ, true, List, length}
use Rattle.warg_crypto.specs.Digests.{sha256}
use Rattle.warg_log.specs.Blocks.{Blocks, StandsFor}
use Rattle.warg_log.specs.Claims.{RootAndLength}
use Rattle.warg_log.specs.Tree.{leaves_of, root_of}
use Rattle.warg_map.specs.Sparse.{map_of, sparse_root}
use Rattle.warg_pages.specs.Audits.{AreInPages, count_last}
use Rattle.warg_pages.specs.ChangedPages.{ChangedPageAt}
use Rattle.warg_pages.specs.Visits.{AreAllPages, IsAllowed}
use Rattle.warg_folder.specs.Files.{Files}
use Rattle.warg_registry.specs.Folder.{page_read}
use Rattle.warg_registry.specs.Insertions.{entries_of}
use Rattle.warg_registry.specs.Reading.{RegistryRead, ReadsRegistry}

-- The log of these insertions has the checkpoint's root and length, and their map has the map's root.
pub record AreOfRegistry (checkpoint : RootAndLength) (said : List ℕ) (insertions : List (List ℕ × List ℕ)) : Type 0 where
  pub count : length insertions ≡ checkpoint.length
  pub log_root : root_of sha256 (leaves_of sha256 (entries_of insertions)) ≡ checkpoint.root
  pub map_root : said ≡ sparse_root sha256 256 (map_of sha256 insertions)

-- These are all pages that a root leads to in files.
abbrev pub AreAllInFiles : Files → List ℕ → ℕ → List ChangedPageAt → Type 0
AreAllInFiles files root version all = AreAllPages sha256 (IsAllowed (page_read files) (true ≡ true)) root version all

-- The log stands for the entries of these insertions; and where a device is faithful, they are in all pages that a root
-- leads to, so many of them as the last ones of their keys.
pub record AreReplayed (IsFaithful : Type 0) (files : Files) (version : ℕ) (log : Blocks) (last : ℕ)
    (insertions : List (List ℕ × List ℕ)) : Type 0 where
  pub entries : StandsFor sha256 log (leaves_of sha256 (entries_of insertions))
  pub in_pages : IsFaithful → (root : List ℕ) (all : List ChangedPageAt) → AreAllInFiles files root version all
      → (versions : List ℕ) × AreInPages sha256 all 0 insertions versions × (last ≡ count_last 0 versions)

-- A reader has the registry of these insertions, and these are all pages that its root leads to.
pub record HasVisited {F : Type 0} (seen : F → Files) (insertions : List (List ℕ × List ℕ)) (all : List ChangedPageAt)
    (r : RegistryRead F) : Type 0 where
  pub origin : List ℕ
  pub reads : ReadsRegistry seen origin insertions r
  pub are_all : AreAllInFiles (seen r.log.folder) r.root r.log.text.length all
