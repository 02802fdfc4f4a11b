-- The peers beside a slot.
use Rattle.std.specs.Prelude.{ℕ, ◌+◌, ◌-◌, ◌*◌, ◌/◌, ◌%◌, ◌^◌, cond, nat_eq, nat_le, nat_lt, ◌&&◌, Bool, List, Option}
use Rattle.std.specs.Bool.{then_some}
use Rattle.std.specs.List.{list_any}
use Rattle.warg_map.specs.Bits.{bits_from}
use Rattle.warg_pages.specs.Slots.{SlotAt}
use Rattle.warg_pages.specs.Pages.{digest_at, root_over, slot_height}

-- The first of the 2 ^ k numbers beside those that a number is among: both runs make one of 2 ^ (k + 1).
abbrev pub first_beside : ℕ → ℕ → ℕ
first_beside s k = cond (nat_eq (s / 2 ^ k % 2) 0) (s / 2 ^ k + 1) (s / 2 ^ k - 1) * 2 ^ k

-- The peer of height k in a page, beside a slot: the root over the 2 ^ k slots there.
abbrev pub page_peer : (List ℕ → List ℕ) → ℕ → List SlotAt → ℕ → ℕ → List ℕ
page_peer H depth slots s k = root_over H (digest_at H (slot_height depth) slots) (first_beside s k) k

-- The prefix of so many bytes of a key's digest.
abbrev pub prefix_of : (List ℕ → List ℕ) → List ℕ → ℕ → List Bool
prefix_of H key depth = bits_from (H key) 0 (8 * depth)

-- Whether a slot stands among the 2 ^ k numbers from one on.
abbrev pub stands_among : List SlotAt → ℕ → ℕ → Bool
stands_among slots first k = list_any (λ x. nat_le first x.byte && nat_lt x.byte (first + 2 ^ k)) slots

-- The same peer, as a proof of absence has it: nothing where no slot stands.
abbrev pub optional_peer : (List ℕ → List ℕ) → ℕ → List SlotAt → ℕ → ℕ → Option (List ℕ)
optional_peer H depth slots s k = then_some (stands_among slots (first_beside s k) k) (page_peer H depth slots s k)
