-- The ranges of the tree's recursion.
use Rattle.std.specs.Prelude.{ℕ, ◌+◌, ◌-◌, ◌<◌, ◌≤◌}
use Rattle.warg_log.specs.Ranges.{Range}
use Rattle.warg_log.specs.Tree.{front_of}

-- The ranges of the recursion of RFC 6962, section 2.1, from n₀ leaves from a₀ on: these themselves, and
-- of each range of more than one leaf its first leaves, as many as the greatest power of two below its
-- count, and the rest.
pub data IsPart (a₀ n₀ : ℕ) : ℕ → ℕ → Type 0 where
  whole : IsPart a₀ n₀ a₀ n₀
  front : (a n : ℕ) → IsPart a₀ n₀ a n → 1 < n → IsPart a₀ n₀ a (front_of n)
  rest : (a n : ℕ) → IsPart a₀ n₀ a n → 1 < n → IsPart a₀ n₀ (a + front_of n) (n - front_of n)

-- The second range has all leaves of the first.
pub record IsAround (inner outer : Range) : Type 0 where
  pub starts : outer.start ≤ inner.start
  pub ends : inner.start + inner.count ≤ outer.start + outer.count
