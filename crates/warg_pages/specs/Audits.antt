-- That the map in a visit's pages is the one that insertions make.
use Rattle.std.specs.Prelude.{◌≡◌, ℕ, ◌+◌, ◌<◌, cond, nat_eq, List, [], ◌∷◌, Option, Some, None}
use Rattle.std.specs.List.{Contains}
use Rattle.warg_crypto.specs.Tree.{leaf_digest}
use Rattle.warg_pages.specs.Slots.{SlotAt}
use Rattle.warg_pages.specs.ChangedPages.{ChangedPageAt}
use Rattle.warg_pages.specs.Visits.{lone_slots}

-- One of the lone keys of pages has this key digest, in a slot of this version, and this leaf digest.
pub record IsLoneAmong (pages : List ChangedPageAt) (key : List ℕ) (version : ℕ) (leaf : List ℕ) : Type 0 where
  pub slot : SlotAt
  pub there : Contains (lone_slots pages) slot
  pub is_version : slot.version ≡ version
  pub is_lone : slot.lone ≡ Some (key, leaf)

-- What pages hold under a key digest: the version and the leaf digest of its lone key, or nothing where there is none.
abbrev pub IsHeldIn : List ChangedPageAt → List ℕ → Option (ℕ × List ℕ) → Type 0
IsHeldIn pages key None = (version : ℕ) (leaf : List ℕ) → IsLoneAmong pages key version leaf → ⊥
IsHeldIn pages key (Some held) = IsLoneAmong pages key held.0 held.1

-- An insertion behind so many others is in the map of pages: its key stands alone in a slot of a later version; and where the
-- version is the next one, the key has the insertion's value.
pub record IsInPages (H : List ℕ → List ℕ) (pages : List ChangedPageAt) (index : ℕ) (e : List ℕ × List ℕ) (version : ℕ) : Type 0 where
  pub leaf : List ℕ
  pub held : IsLoneAmong pages (H e.0) version leaf
  pub later : index < version
  pub last : version ≡ index + 1 → leaf ≡ leaf_digest H e.1

-- Insertions behind so many others are, by these versions.
unfoldable pub AreInPages : (List ℕ → List ℕ) → List ChangedPageAt → ℕ → List (List ℕ × List ℕ) → List ℕ → Type 0
AreInPages H pages index [] [] = Unit {0}
AreInPages H pages index (e ∷ es) (v ∷ vs) = IsInPages H pages index e v × AreInPages H pages (index + 1) es vs
AreInPages H pages index _ _ = ⊥

-- How many of them are the last ones of their keys: those whose version is the next one.
abbrev pub count_last : ℕ → List ℕ → ℕ
count_last index [] = 0
count_last index (v ∷ vs) = cond (nat_eq v (index + 1)) 1 0 + count_last (index + 1) vs
