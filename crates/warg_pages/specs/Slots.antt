-- The slots of a page.
use Rattle.std.specs.Prelude.{ℕ, zero, suc, ◌+◌, ◌-◌, ◌^◌, ◌<◌, Bool, not, ◌||◌, List, [], ◌∷◌, ◌++◌, length, Option, Some, None}
use Rattle.std.specs.Bool.{then_some}
use Rattle.std.specs.Option.{ForSome}
use Rattle.std.specs.List.{All, AllPairs, list_all, filter_map}
use Rattle.warg_crypto.specs.Digests.{IsDigest}
use Rattle.warg_crypto.specs.Tree.{leaf_digest}
use Rattle.warg_map.specs.Bits.{key_bits}
use Rattle.warg_map.specs.Last.{last_with, same_bits}
use Rattle.warg_map.specs.Sparse.{root_of_levels, map_of}
use Rattle.warg_pages.specs.Prefixes.{byte_bits, is_below, below, version}

-- A slot: its byte, the version and the digest of what stands below it, and of a lone key its digest and its leaf digest.
pub record SlotAt : Type 0 where
  pub byte : ℕ
  pub version : ℕ
  pub digest : List ℕ
  pub lone : Option (List ℕ × List ℕ)

-- A lone key's two digests are digests.
abbrev pub IsLone : Option (List ℕ × List ℕ) → Type 0
IsLone lone = ForSome lone (λ l. IsDigest l.0 × IsDigest l.1)

-- A byte, a version of 8 bytes, and digests.
pub record IsSlot (x : SlotAt) : Type 0 where
  pub is_byte : x.byte < 256
  pub fits : x.version < 2 ^ 64
  pub digest : IsDigest x.digest
  pub lone : IsLone x.lone

-- The slots ascend, none twice.
abbrev pub Ascends : List SlotAt → Type 0
Ascends = AllPairs (λ x y. x.byte < y.byte)

-- The slots of a page.
pub record IsPage (slots : List SlotAt) : Type 0 where
  pub ascend : Ascends slots
  pub are_slots : All IsSlot slots

-- Whether all insertions below a prefix have the key digest of this one.
abbrev pub is_lone : (List ℕ → List ℕ) → List (List ℕ × List ℕ) → List Bool → List ℕ × List ℕ → Bool
is_lone H insertions prefix e = list_all (λ f. not (is_below H prefix f) || same_bits (key_bits H e.0) (key_bits H f.0)) insertions

-- The slot of a byte over a prefix, whose last insertion is e: nothing where there is none.
abbrev pub slot_over : (List ℕ → List ℕ) → List (List ℕ × List ℕ) → List Bool → ℕ → Option (List ℕ × List ℕ) → Option SlotAt
slot_over H insertions prefix s None = None
slot_over H insertions prefix s (Some e) = Some (record {
  byte = s;
  version = version H insertions prefix;
  digest = root_of_levels H (256 - length prefix) (below (map_of H insertions) prefix);
  lone = then_some (is_lone H insertions prefix e) (H e.0, leaf_digest H e.1);
})

-- The slot of a byte in the page at a prefix.
abbrev pub slot_of : (List ℕ → List ℕ) → List (List ℕ × List ℕ) → List Bool → ℕ → Option SlotAt
slot_of H insertions prefix s = slot_over H insertions (prefix ++ byte_bits s) s (last_with (is_below H (prefix ++ byte_bits s)) insertions)

-- The n numbers from one on.
unfoldable pub numbers : ℕ → ℕ → List ℕ
numbers first zero = []
numbers first (suc n) = first ∷ numbers (first + 1) n

-- The slots of the page at a prefix, ascending.
unfoldable pub page_of : (List ℕ → List ℕ) → List (List ℕ × List ℕ) → List Bool → List SlotAt
page_of H insertions prefix = filter_map (slot_of H insertions prefix) (numbers 0 256)
