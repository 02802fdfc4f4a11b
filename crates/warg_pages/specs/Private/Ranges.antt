-- Slots of a part of a page.
use Rattle.std.specs.Prelude.{ℕ, ◌+◌, ◌^◌, ◌<◌, ◌≤◌, List}
use Rattle.std.specs.List.{All}
use Rattle.warg_pages.specs.Slots.{SlotAt, Ascends}

-- They ascend, among the bytes of a tree of so many levels from a number on.
pub record IsRange (first levels : ℕ) (slots : List SlotAt) : Type 0 where
  pub ascend : Ascends slots
  pub from : All (λ x. first ≤ x.byte) slots
  pub to : All (λ x. x.byte < first + 2 ^ levels) slots
