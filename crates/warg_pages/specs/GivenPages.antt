-- Pages that anyone gave.
use Rattle.std.specs.Prelude.{◌≡◌, ℕ, ◌+◌, ◌*◌, ◌^◌, ◌<◌, ◌≤◌, List}
use Rattle.warg_crypto.specs.Tree.{branch_input}
use Rattle.warg_pages.specs.Slots.{SlotAt}
use Rattle.warg_pages.specs.Pages.{digest_at, root_over, slot_height}

-- Two lists of slots have the same digest at every byte, whether a slot stands there or not.
abbrev pub HaveSameDigests : (List ℕ → List ℕ) → ℕ → List SlotAt → List SlotAt → Type 0
HaveSameDigests H depth slots others = (s : ℕ) → s < 256 → digest_at H (slot_height depth) slots s ≡ digest_at H (slot_height depth) others s

-- What the digest function takes at the branch over 2 ^ (k + 1) slots of a page from one on.
abbrev pub input_over : (List ℕ → List ℕ) → ℕ → List SlotAt → ℕ → ℕ → List ℕ
input_over H depth slots first k = branch_input (root_over H (digest_at H (slot_height depth) slots) first k) (root_over H (digest_at H (slot_height depth) slots) (first + 2 ^ k) k)

-- Two byte strings are what it takes at one branch of two pages, over two runs of slots that begin at a multiple of their number.
pub record AreInputsAt (H : List ℕ → List ℕ) (depth : ℕ) (slots others : List SlotAt) (one other : List ℕ) : Type 0 where
  pub first : ℕ
  pub levels : ℕ
  pub place : ℕ
  pub aligned : first ≡ place * (2 ^ levels + 2 ^ levels)
  pub in_page : first + (2 ^ levels + 2 ^ levels) ≤ 256
  pub one_is : one ≡ input_over H depth slots first levels
  pub other_is : other ≡ input_over H depth others first levels
