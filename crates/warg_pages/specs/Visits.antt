-- The pages that a root leads to, as a source has them, and the keys that stand alone in their slots.
use Rattle.std.specs.Prelude.{◌≡◌, ℕ, zero, suc, ◌+◌, List, [], ◌∷◌, ◌++◌, length, take, Bool, Option, Some, None, IfSome, find}
use Rattle.std.specs.List.{flat_map, filter, filter_map}
use Rattle.std.specs.Option.{option_map, is_some}
use Rattle.warg_crypto.specs.EmptyTrees.{empty_root}
use Rattle.warg_map.specs.Bits.{last_bits}
use Rattle.warg_map.specs.Last.{same_bits}
use Rattle.warg_map.specs.Sparse.{root_of_levels}
use Rattle.warg_pages.specs.Prefixes.{bits_of_bytes}
use Rattle.warg_pages.specs.Slots.{SlotAt, IsPage}
use Rattle.warg_pages.specs.Pages.{page_digest, slot_height}
use Rattle.warg_pages.specs.PageBytes.{page_bytes}
use Rattle.warg_pages.specs.ChangedPages.{ChangedPageAt}
use Rattle.warg_pages.specs.declared.visit.LoneKeyCheck.{LoneKeyCheck}
use Rattle.warg_pages.specs.declared.visit.LoneKeyCheck.TheVariants.{Hashed, Skipped}

-- What lone keys hold under bits: the leaf digest of the first of them whose digest has these bits.
abbrev pub held_by : List (List ℕ × List ℕ) → List Bool → Option (List ℕ)
held_by lones bits = option_map (λ l. l.1) (find (λ l. same_bits bits (last_bits l.0 256)) lones)

-- A lone key stands below a slot of a page at a prefix: its digest begins with both, and nothing else is held there.
pub record IsLoneBelow (H : List ℕ → List ℕ) (prefix : List ℕ) (x : SlotAt) (lone : List ℕ × List ℕ) : Type 0 where
  pub begins : take (length prefix + 1) lone.0 ≡ prefix ++ x.byte ∷ []
  pub digest : x.digest ≡ root_of_levels H (slot_height (length prefix))
      (λ bits. held_by (lone ∷ []) (bits_of_bytes (prefix ++ x.byte ∷ []) ++ bits))

-- What a visit shows of a slot's lone key.
abbrev pub IsLoneShown : (List ℕ → List ℕ) → LoneKeyCheck → List ℕ → SlotAt → List ℕ × List ℕ → Type 0
IsLoneShown H Hashed = IsLoneBelow H
IsLoneShown H Skipped = λ prefix x lone. Unit {0}

-- The pages below a slot of a page at a prefix: none below a lone key, of which this is so, and else those of the longer prefix.
abbrev pub AreOfSlot : (List ℕ → SlotAt → List ℕ × List ℕ → Type 0)
    → (List ℕ → ℕ → List ℕ → List ChangedPageAt → Type 0) → List ℕ → SlotAt
    → Option (List ℕ × List ℕ) → List ChangedPageAt → Type 0
AreOfSlot IsLone AreFrom prefix x None pages = AreFrom (prefix ++ x.byte ∷ []) x.version x.digest pages
AreOfSlot IsLone AreFrom prefix x (Some lone) pages = (pages ≡ []) × IsLone prefix x lone

-- Those below slots, one slot after the other.
unfoldable pub AreOfSlots : (List ℕ → SlotAt → List ℕ × List ℕ → Type 0)
    → (List ℕ → ℕ → List ℕ → List ChangedPageAt → Type 0) → List ℕ → List SlotAt → List ChangedPageAt → Type 0
AreOfSlots IsLone AreFrom prefix [] pages = pages ≡ []
AreOfSlots IsLone AreFrom prefix (x ∷ xs) pages = (first rest : List ChangedPageAt) × (pages ≡ first ++ rest)
    × AreOfSlot IsLone AreFrom prefix x x.lone first × AreOfSlots IsLone AreFrom prefix xs rest

-- The pages from a prefix, a version and a digest on, over at most so many more bytes: the one there, and those below it.
unfoldable pub AreFromWhere : (List ℕ → List ℕ) → (List ℕ → SlotAt → List ℕ × List ℕ → Type 0)
    → (List ℕ → ℕ → List SlotAt → Type 0) → ℕ → List ℕ → ℕ → List ℕ → List ChangedPageAt → Type 0
AreFromWhere H IsLone IsThere zero prefix version digest pages = ⊥
AreFromWhere H IsLone IsThere (suc n) prefix version digest pages = (slots : List SlotAt) × (below : List ChangedPageAt)
    × (pages ≡ record { prefix = prefix; version = version; page = slots } ∷ below) × IsPage slots
    × IsThere prefix version slots × (page_digest H (length prefix) slots ≡ digest)
    × AreOfSlots IsLone (AreFromWhere H IsLone IsThere n) prefix slots below

-- All pages that a root leads to, from the first one on: none of a map without insertions.
abbrev pub AreAllPagesWhere : (List ℕ → List ℕ) → (List ℕ → SlotAt → List ℕ × List ℕ → Type 0)
    → (List ℕ → ℕ → List SlotAt → Type 0) → List ℕ → ℕ → List ChangedPageAt → Type 0
AreAllPagesWhere H IsLone IsThere root zero pages = (pages ≡ []) × (root ≡ empty_root H 256)
AreAllPagesWhere H IsLone IsThere root (suc last) pages = AreFromWhere H IsLone IsThere 32 [] (suc last) root pages

-- The pages from a prefix on, where each lone key stands below its slot.
abbrev pub AreFrom : (List ℕ → List ℕ) → (List ℕ → ℕ → List SlotAt → Type 0) → ℕ → List ℕ → ℕ → List ℕ
    → List ChangedPageAt → Type 0
AreFrom H IsThere = AreFromWhere H (IsLoneBelow H) IsThere

-- All pages that a root leads to, where each lone key stands below its slot.
abbrev pub AreAllPages : (List ℕ → List ℕ) → (List ℕ → ℕ → List SlotAt → Type 0) → List ℕ → ℕ → List ChangedPageAt → Type 0
AreAllPages H IsThere = AreAllPagesWhere H (IsLoneBelow H) IsThere

-- A page is one that a source has: what is known of its bytes allows the page, and says it where it tells of every page.
pub record IsAllowed (bytes_at : List ℕ → ℕ → Option (List ℕ)) (tells_all : Type 0) (prefix : List ℕ) (version : ℕ)
    (slots : List SlotAt) : Type 0 where
  pub allowed : IfSome (bytes_at prefix version) (λ stands. stands ≡ page_bytes slots)
  pub told : tells_all → bytes_at prefix version ≡ Some (page_bytes slots)

-- Any page at all, wherever it stands: what a root leads to by digests alone.
abbrev pub IsAnyPage : List ℕ → ℕ → List SlotAt → Type 0
IsAnyPage prefix version slots = Unit {0}

-- The slots of pages with a lone key.
abbrev pub lone_slots : List ChangedPageAt → List SlotAt
lone_slots pages = flat_map (λ p. filter (λ x. is_some x.lone) p.page) pages

-- The lone keys of pages: of each its digest and its leaf digest.
abbrev pub lone_keys : List ChangedPageAt → List (List ℕ × List ℕ)
lone_keys pages = filter_map (λ x. x.lone) (lone_slots pages)
