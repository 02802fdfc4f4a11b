-- The pages below the slots of a page.
use Rattle.std.proofs.Common.{ℕ, List, [], ◌∷◌, arith, inl, inr}
use Rattle.std.proofs.lemmas.List.Elements.{Contains-append_left, Contains-append_right, Contains-append_cases}
use Rattle.std.specs.List.{Contains}
use Rattle.warg_pages.specs.Slots.{SlotAt}
use Rattle.warg_pages.specs.ChangedPages.{ChangedPageAt}
use Rattle.warg_pages.specs.Visits.{AreOfSlot, AreOfSlots}
use Rattle.warg_pages.proofs.Members.{among, first_among, later_among}

module _ (IsLone : List ℕ → SlotAt → List ℕ × List ℕ → Type 0)
    (From : List ℕ → ℕ → List ℕ → List ChangedPageAt → Type 0) (prefix : List ℕ) where
  -- the pages of a slot are among those of all
  pub record AreAmong (pages : List ChangedPageAt) (x : SlotAt) : Type 0 where
    pub these : List ChangedPageAt
    pub of_slot : AreOfSlot IsLone From prefix x x.lone these
    pub within : (p : ChangedPageAt) → Contains these p → Contains pages p

  pub of_member : (slots : List SlotAt) (pages : List ChangedPageAt) → AreOfSlots IsLone From prefix slots pages
      → (x : SlotAt) → Contains slots x → AreAmong pages x
  unfolding AreOfSlots
  of_member [] pages h x c = absurd (omega arith)
  of_member (y ∷ slots) pages h x c = elim (among y slots x c) [
    | inl same ↦ rw (← same) record {
      these = h.0;
      of_slot = h.3;
      within = λ p d. rw h.2 (Contains-append_left h.0 h.1 p d);
    }
    | inr later ↦ (let rest = of_member slots h.1 h.4 x later in record {
      these = rest.these;
      of_slot = rest.of_slot;
      within = λ p d. rw h.2 (Contains-append_right h.0 h.1 p (rest.within p d));
    })
  ]

  -- and each page is one of a slot
  pub record IsOfSlot (slots : List SlotAt) (p : ChangedPageAt) : Type 0 where
    pub slot : SlotAt
    pub in_slots : Contains slots slot
    pub these : List ChangedPageAt
    pub of_slot : AreOfSlot IsLone From prefix slot slot.lone these
    pub there : Contains these p

  pub of_page : (slots : List SlotAt) (pages : List ChangedPageAt) → AreOfSlots IsLone From prefix slots pages
      → (p : ChangedPageAt) → Contains pages p → IsOfSlot slots p
  unfolding AreOfSlots
  of_page [] pages h p c = let none : Contains [] p = rw h at c in absurd (omega arith)
  of_page (x ∷ slots) pages h p c = elim (Contains-append_cases h.0 h.1 p (rw h.2 at c)) [
    | inl first ↦ record { slot = x; in_slots = first_among x slots; these = h.0; of_slot = h.3; there = first }
    | inr later ↦ (let rest = of_page slots h.1 h.4 p later in record {
      slot = rest.slot;
      in_slots = later_among x slots _ rest.in_slots;
      these = rest.these;
      of_slot = rest.of_slot;
      there = rest.there;
    })
  ]
