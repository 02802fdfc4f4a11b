-- The pages that a registry needs.
use Rattle.std.specs.Prelude.{◌≡◌, ◌⊎◌, ℕ, true, List, map}
use Rattle.std.specs.declared.alloc.Global.{Global}
use Rattle.std.specs.List.{Contains}
use Rattle.std.specs.String.{string_bytes}
use Rattle.std.specs.declared.string.String.{String}
use Rattle.warg_crypto.specs.Digests.{sha256}
use Rattle.warg_pages.specs.ChangedPages.{ChangedPageAt}
use Rattle.warg_pages.specs.OwnPages.{stands}
use Rattle.warg_pages.specs.PagePaths.{page_path}
use Rattle.warg_pages.specs.Prefixes.{bits_of_bytes, version}
use Rattle.warg_pages.specs.ProvedKeys.{IsOwnSource}
use Rattle.warg_folder.specs.Files.{File, Files, AreApart}
use Rattle.warg_folder.specs.Names.{page_name}
use Rattle.warg_store.specs.Growing.{LogIn}
use Rattle.warg_store.specs.Log.{Serves}
use Rattle.warg_registry.specs.Folder.{pages_of, registry_of, page_read, IsLogRead}

-- The bytes of names.
abbrev pub bytes_of : List (String Global) → List (List ℕ)
bytes_of names = map (λ name. string_bytes name) names

-- Each of these is one of the names, and where no two of the names are one, no two of these are.
pub record AreSome (these names : List (String Global)) : Type 0 where
  pub within : (n : List ℕ) → Contains (bytes_of these) n → Contains (bytes_of names) n
  pub apart : AreApart names → AreApart these

-- Among the names are those of these pages.
abbrev pub ArePathsOf : List (List ℕ) → List ChangedPageAt → Type 0
ArePathsOf names pages = (p : ChangedPageAt) → Contains pages p → Contains names (page_path p.prefix p.version)

-- Each name is that of one of these pages.
abbrev pub AreOnlyPathsOf : List (List ℕ) → List ChangedPageAt → Type 0
AreOnlyPathsOf names pages = (n : List ℕ) → Contains names n
    → (p : ChangedPageAt) × Contains pages p × (page_path p.prefix p.version ≡ n)

-- Among the names are those of all pages of these insertions.
abbrev pub HaveAllPages : List (List ℕ) → List (List ℕ × List ℕ) → Type 0
HaveAllPages names insertions = (f : File) → Contains (pages_of insertions) f → Contains names (page_name f.0)

-- The name is that of a page of these insertions: where one stands, at its version.
abbrev pub IsPageOf : List (List ℕ × List ℕ) → List ℕ → Type 0
IsPageOf insertions n = (prefix : List ℕ) × (stands sha256 insertions (bits_of_bytes prefix) ≡ true)
    × (page_path prefix (version sha256 insertions (bits_of_bytes prefix)) ≡ n)

-- The names are those of the pages of two lists of insertions, and no others.
pub record AreNeeded (names : List (List ℕ)) (served kept : List (List ℕ × List ℕ)) : Type 0 where
  pub all_served : HaveAllPages names served
  pub all_kept : HaveAllPages names kept
  pub only : (n : List ℕ) → Contains names n → IsPageOf served n ⊎ IsPageOf kept n

-- What is said of each log that was only read since, where it serves the registry of one list of insertions, and a root
-- leads to the pages of another.
abbrev pub OfBoth : {F : Type 0} → (F → Files) → (F → Files → Type 0) → (F → ℕ) → (F → ℕ → Files → Type 0) → LogIn F
    → List ℕ → ℕ → (LogIn F → List (List ℕ × List ℕ) → List (List ℕ × List ℕ) → Type 0) → Type 0
OfBoth {F = F} seen may_leave moment left_since now root count Said =
    (known : LogIn F) (origin : List ℕ) (served kept : List (List ℕ × List ℕ))
    → IsLogRead seen may_leave moment left_since known now → Serves (registry_of origin served) (seen known.folder)
    → IsOwnSource sha256 (page_read (seen known.folder)) root count kept → Said known served kept

-- No name stands in both lists.
abbrev pub AreNone : List (List ℕ) → List (List ℕ) → Type 0
AreNone names others = (n : List ℕ) → Contains names n → Contains others n → ⊥

-- Each name stands in one of two lists.
abbrev pub AreAmong : List (List ℕ) → List (List ℕ) → List (List ℕ) → Type 0
AreAmong names these those = (n : List ℕ) → Contains names n → Contains these n ⊎ Contains those n
