-- What becomes of a slot.
use Rattle.std.specs.Prelude.{◌≡◌, ℕ, ◌<◌, List, [], ◌∷◌, ◌++◌, length, Option, IfSome}
use Rattle.std.specs.List.{filter}
use Rattle.warg_pages.specs.declared.update.SlotUpdate.{SlotUpdate}
use Rattle.warg_pages.specs.declared.update.SlotUpdate.TheVariants.{Whole, Below}
use Rattle.warg_pages.specs.Slots.{SlotAt}
use Rattle.warg_pages.specs.Pages.{slot_at}
use Rattle.warg_pages.specs.Private.Updates.{goes_to, slot_digest, ChangeAt, IsOwnChange, IsOwnUpdate, IsUpdatedSlot}

-- A slot of this byte, without changes there the one before; or the page below it, with the changes there.
abbrev pub IsSlotUpdate : {D A : _} → (List ℕ → List ℕ) → List ℕ → List SlotAt → List ChangeAt → ℕ → SlotUpdate D A → Type 0
IsSlotUpdate H prefix slots changes byte (Whole slot) = IfSome slot (λ x. x.byte ≡ byte) × (filter (goes_to (length prefix) byte) changes ≡ [] → slot ≡ slot_at slots byte)
IsSlotUpdate H prefix slots changes byte (Below update) = (update.prefix.items ≡ prefix ++ byte ∷ []) × (length update.prefix.items < 32) × (update.digest ≡ slot_digest H (length prefix) (slot_at slots byte))
    × (update.changes.items ≡ filter (goes_to (length prefix) byte) changes) × ¬ (filter (goes_to (length prefix) byte) changes ≡ [])

-- Where a source has the pages of the old insertions: a slot, as the new ones leave it, with no page below it that they change; or the page below it, which they change.
abbrev pub IsOwnSlotUpdate : {D A : _} → (List ℕ → List ℕ) → (List ℕ → ℕ → Option (List ℕ)) → List ℕ → List SlotAt → List ChangeAt → ℕ → SlotUpdate D A → Type 0
IsOwnSlotUpdate H bytes_at prefix slots changes byte (Whole slot) = (old more : List (List ℕ × List ℕ)) → IsOwnChange H bytes_at prefix slots changes old more → IsUpdatedSlot H old more prefix byte slot []
IsOwnSlotUpdate H bytes_at prefix slots changes byte (Below update) = (old more : List (List ℕ × List ℕ)) → IsOwnChange H bytes_at prefix slots changes old more
    → IsOwnUpdate H bytes_at update.prefix.items update.version update.digest update.page update.changes.items old more
