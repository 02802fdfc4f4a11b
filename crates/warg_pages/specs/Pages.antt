-- The digest of a page.
use Rattle.std.specs.Prelude.{ℕ, zero, suc, ◌+◌, ◌-◌, ◌*◌, ◌^◌, cond, nat_eq, List, [], ◌∷◌, Option, find}
use Rattle.warg_crypto.specs.EmptyTrees.{empty_root}
use Rattle.warg_crypto.specs.Tree.{branch}
use Rattle.warg_pages.specs.Slots.{SlotAt}

-- The digest of the slot of a byte, or that of the empty tree of its height.
unfoldable pub digest_at : (List ℕ → List ℕ) → ℕ → List SlotAt → ℕ → List ℕ
digest_at H height [] s = empty_root H height
digest_at H height (x ∷ xs) s = cond (nat_eq x.byte s) x.digest (digest_at H height xs s)

-- The digest of the tree of k levels over the digests of 2 ^ k numbers from one on.
unfoldable pub root_over : (List ℕ → List ℕ) → (ℕ → List ℕ) → ℕ → ℕ → List ℕ
root_over H digest first zero = digest first
root_over H digest first (suc k) = branch H (root_over H digest first k) (root_over H digest (first + 2 ^ k) k)

-- The height of the tree below a slot of a page at a prefix of so many bytes.
abbrev pub slot_height : ℕ → ℕ
slot_height depth = 248 - 8 * depth

-- The digest of the page with these slots at a prefix of so many bytes: the root over its 256 slots.
abbrev pub page_digest : (List ℕ → List ℕ) → ℕ → List SlotAt → List ℕ
page_digest H depth slots = root_over H (digest_at H (slot_height depth) slots) 0 8

-- The slot of a byte, or nothing.
abbrev pub slot_at : List SlotAt → ℕ → Option SlotAt
slot_at slots s = find (λ x. nat_eq x.byte s) slots
