-- The pages below a prefix, as insertions change them.
use Rattle.std.specs.Prelude.{◌≡◌, ◌≢◌, ℕ, ◌+◌, ◌-◌, ◌*◌, ◌^◌, ◌<◌, nat_eq, Bool, List, [], ◌∷◌, ◌++◌, length, slice_index, Option, Some, None}
use Rattle.std.specs.List.{All, AllPairs, Contains, filter}
use Rattle.warg_crypto.specs.Digests.{IsByte}
use Rattle.warg_crypto.specs.EmptyTrees.{empty_root}
use Rattle.warg_crypto.specs.Tree.{leaf_digest}
use Rattle.warg_map.specs.Bits.{last_bits}
use Rattle.warg_map.specs.Last.{last_with}
use Rattle.warg_map.specs.Sparse.{root_of_levels, map_of}
use Rattle.warg_pages.specs.Prefixes.{bits_of_bytes, begins, is_below, below, version}
use Rattle.warg_pages.specs.Slots.{SlotAt, slot_over, slot_of, page_of}
use Rattle.warg_pages.specs.Pages.{slot_height, page_digest}
use Rattle.warg_pages.specs.OwnPages.{AreOwnPages}
use Rattle.warg_pages.specs.ProvedKeys.{IsOwnSource}
use Rattle.warg_pages.specs.Private.Descents.{lone_root}
use Rattle.warg_pages.specs.ChangedPages.{ChangedPageAt, page_at, ChangesAt, StoodAt, ChangesWhatStood}

-- What an insertion puts under a key digest: a leaf digest, as the version of what stands there.
pub record ChangeAt : Type 0 where
  pub key : List ℕ
  pub leaf : List ℕ
  pub version : ℕ

-- What insertions put there, behind so many others.
abbrev pub changes_from : (List ℕ → List ℕ) → ℕ → List (List ℕ × List ℕ) → List ChangeAt
changes_from H count [] = []
changes_from H count (e ∷ es) = record { key = H e.0; leaf = leaf_digest H e.1; version = count + 1 } ∷ changes_from H (count + 1) es

-- What those below a prefix put there.
abbrev pub changes_below : (List ℕ → List ℕ) → ℕ → List (List ℕ × List ℕ) → List Bool → List ChangeAt
changes_below H count es prefix = filter (λ c. begins prefix (last_bits c.key 256)) (changes_from H count es)

-- Whether the byte at a depth of a change's key digest is this one.
abbrev pub goes_to : ℕ → ℕ → ChangeAt → Bool
goes_to depth byte c = nat_eq (slice_index c.key depth) byte

-- A source has the pages of the old insertions, and the changes at a prefix of bytes are those of the new ones below it.
pub record IsOwnChange (H : List ℕ → List ℕ) (bytes_at : List ℕ → ℕ → Option (List ℕ)) (prefix : List ℕ) (slots : List SlotAt) (changes : List ChangeAt) (old more : List (List ℕ × List ℕ)) : Type 0 where
  pub pages : AreOwnPages H bytes_at old
  pub fits : length old + length more < 2 ^ 64
  pub are_bytes : All IsByte prefix
  pub are_slots : slots ≡ page_of H old (bits_of_bytes prefix)
  pub are_changes : changes ≡ changes_below H (length old) more (bits_of_bytes prefix)

-- So a page stands at the prefix, which the new ones change: this is its version then, and its digest before.
pub record IsOwnUpdate (H : List ℕ → List ℕ) (bytes_at : List ℕ → ℕ → Option (List ℕ)) (prefix : List ℕ) (number : ℕ) (digest : List ℕ) (slots : List SlotAt) (changes : List ChangeAt) (old more : List (List ℕ × List ℕ)) : Type 0 where
  pub own : IsOwnChange H bytes_at prefix slots changes old more
  pub changed : ChangesAt H old more prefix
  pub is_version : number ≡ version H (old ++ more) (bits_of_bytes prefix)
  pub is_digest : digest ≡ root_of_levels H (256 - 8 * length prefix) (below (map_of H old) (bits_of_bytes prefix))

-- A prefix begins with another, and goes on with a byte below this one.
abbrev pub GoesBelow : List ℕ → ℕ → List ℕ → Type 0
GoesBelow front limit prefix = (byte : ℕ) × (rest : List ℕ) × (byte < limit) × (prefix ≡ front ++ byte ∷ rest)

-- A prefix begins with another.
abbrev pub GoesOn : List ℕ → List ℕ → Type 0
GoesOn front prefix = (rest : List ℕ) × (prefix ≡ front ++ rest)

-- Of the prefixes of a kind, the pages that insertions behind others change, each once.
pub record AreChangedAmong (H : List ℕ → List ℕ) (old more : List (List ℕ × List ℕ)) (Kind : List ℕ → Type 0) (pages : List ChangedPageAt) : Type 0 where
  pub each : All (λ c. Kind c.prefix × ChangesAt H old more c.prefix × (c ≡ page_at H (old ++ more) c.prefix)) pages
  pub all : (prefix : List ℕ) → Kind prefix → ChangesAt H old more prefix → Contains pages (page_at H (old ++ more) prefix)
  pub once : AllPairs (λ c d. c.prefix ≢ d.prefix) pages

-- The changes at a prefix of bytes are those of insertions behind so many.
pub record AreChangesAt (H : List ℕ → List ℕ) (count : ℕ) (more : List (List ℕ × List ℕ)) (prefix : List ℕ) (changes : List ChangeAt) : Type 0 where
  pub are_bytes : All IsByte prefix
  pub are_changes : changes ≡ changes_below H count more (bits_of_bytes prefix)

-- Slots with this digest are what stood at a prefix below a root.
abbrev pub IsNamedAt : (List ℕ → List ℕ) → List ℕ → List ℕ → List ℕ → Type 0
IsNamedAt H root prefix digest = (slots : List SlotAt) → page_digest H (length prefix) slots ≡ digest → StoodAt H root prefix slots

-- Over any pages: where slots stood at a prefix, each of the changed pages is what stood, but for what was inserted.
abbrev pub ChangeWhatStood : (List ℕ → List ℕ) → List ℕ → List SlotAt → List ChangeAt → List ChangedPageAt → Type 0
ChangeWhatStood H prefix slots changes pages = (root : List ℕ) (count : ℕ) (more : List (List ℕ × List ℕ)) → AreChangesAt H count more prefix changes → StoodAt H root prefix slots → All (ChangesWhatStood H root more) pages

-- What stands below a prefix after the new insertions: the digest there, and the pages that change.
pub record IsUpdated (H : List ℕ → List ℕ) (old more : List (List ℕ × List ℕ)) (prefix digest : List ℕ) (pages : List ChangedPageAt) : Type 0 where
  pub is_root : digest ≡ root_of_levels H (256 - 8 * length prefix) (below (map_of H (old ++ more)) (bits_of_bytes prefix))
  pub changed : AreChangedAmong H old more (GoesOn prefix) pages

-- The slot of a byte after the new insertions, and the pages below it that change.
pub record IsUpdatedSlot (H : List ℕ → List ℕ) (old more : List (List ℕ × List ℕ)) (prefix : List ℕ) (byte : ℕ) (slot : Option SlotAt) (pages : List ChangedPageAt) : Type 0 where
  pub is_slot : slot ≡ slot_of H (old ++ more) (bits_of_bytes prefix) byte
  pub changed : AreChangedAmong H old more (GoesOn (prefix ++ byte ∷ [])) pages

-- A source has the pages of insertions, and this is the slot that names what stands below a prefix.
pub record IsOwnBelow (H : List ℕ → List ℕ) (bytes_at : List ℕ → ℕ → Option (List ℕ)) (prefix : List ℕ) (slot : Option SlotAt) (insertions : List (List ℕ × List ℕ)) : Type 0 where
  pub pages : AreOwnPages H bytes_at insertions
  pub fits : length insertions < 2 ^ 64
  pub are_bytes : All IsByte prefix
  pub byte : ℕ
  pub is_slot : slot ≡ slot_over H insertions (bits_of_bytes prefix) byte (last_with (is_below H (bits_of_bytes prefix)) insertions)

-- The slot of a byte with a lone key, in a page at a prefix of so many bytes.
abbrev pub lone_slot : (List ℕ → List ℕ) → ℕ → ℕ → ℕ → List ℕ × List ℕ → SlotAt
lone_slot H depth byte number lone = record {
  byte = byte;
  version = number;
  digest = lone_root H lone.0 lone.1 (slot_height depth);
  lone = Some lone;
}

-- The slot of a lone key, in a page at a prefix with which it begins.
abbrev pub slot_one_down : (List ℕ → List ℕ) → List ℕ → ℕ → List ℕ × List ℕ → SlotAt
slot_one_down H prefix number lone = lone_slot H (length prefix) (slice_index lone.0 (length prefix)) number lone

-- The tree of a slot's lone key has the slot's digest.
abbrev pub HasLoneDigest : (List ℕ → List ℕ) → ℕ → Option SlotAt → Type 0
HasLoneDigest H depth None = Unit {0}
HasLoneDigest H depth (Some x) = (lone : List ℕ × List ℕ) → x.lone ≡ Some lone → lone_root H lone.0 lone.1 (slot_height depth) ≡ x.digest

-- The digest of what stands below a slot of a page at a prefix of so many bytes.
abbrev pub slot_digest : (List ℕ → List ℕ) → ℕ → Option SlotAt → List ℕ
slot_digest H depth None = empty_root H (slot_height depth)
slot_digest H depth (Some x) = x.digest

-- No key stands below a slot but this one.
abbrev pub HoldsOnly : List ℕ → Option SlotAt → Type 0
HoldsOnly key None = Unit {0}
HoldsOnly key (Some x) = (leaf : List ℕ) × (x.lone ≡ Some (key, leaf))

-- So it is after changes there.
abbrev pub StaysAlone : List ℕ → Option SlotAt → List ChangeAt → Type 0
StaysAlone key slot changes = HoldsOnly key slot × All (λ c. c.key ≡ key) changes

-- Where this slot names what stands below a prefix, these are the slots of the page there.
abbrev pub IsReadBelow : (List ℕ → List ℕ) → (List ℕ → ℕ → Option (List ℕ)) → List ℕ → Option SlotAt → List SlotAt → Type 0
IsReadBelow H bytes_at prefix slot page = (insertions : List (List ℕ × List ℕ)) → IsOwnBelow H bytes_at prefix slot insertions → page ≡ page_of H insertions (bits_of_bytes prefix)

-- Where a source is an own one, this is the page at the empty prefix.
abbrev pub IsFirstPage : (List ℕ → List ℕ) → (List ℕ → ℕ → Option (List ℕ)) → List ℕ → ℕ → List SlotAt → Type 0
IsFirstPage H bytes_at root count page = (insertions : List (List ℕ × List ℕ)) → IsOwnSource H bytes_at root count insertions → page ≡ page_of H insertions []
