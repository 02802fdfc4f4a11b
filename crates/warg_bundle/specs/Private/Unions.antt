-- Sets of numbers while nodes are added to them.
use Rattle.std.specs.Prelude.{◌≡◌, ℕ, ◌||◌, nat_eq, List, []}
use Rattle.std.specs.List.{IsDistinct, list_any}
use Rattle.std.specs.List.Sorted.{IsSorted}
use Rattle.std.specs.Ordering.{nat_cmp}

-- The elements of `new` are those of `old` and of `more`.
abbrev pub IsUnion : List ℕ → List ℕ → List ℕ → Type 0
IsUnion old new more = (x : ℕ) → list_any (nat_eq x) new ≡ (list_any (nat_eq x) old || list_any (nat_eq x) more)

-- The numbers are these, ascending, each once.
pub record IsCollected (numbers these : List ℕ) : Type 0 where
  pub needed : IsUnion [] numbers these
  pub sorted : IsSorted nat_cmp numbers
  pub once : IsDistinct nat_eq numbers
