use Rattle.std.proofs.Common.{◌≡◌, ℕ, ◌<◌, [], vec_len}
use Rattle.std.specs.List.{HoldsAt}
use Rattle.warg_pages.proofs.change.empty_lists.Given as goal

abbrev pub invariant-loop : goal.invariant-loop
invariant-loop g l = record {
  size : vec_len l.lists ≡ l.counter;
  each : (byte : ℕ) → byte < l.counter → HoldsAt (λ list. list.items ≡ []) l.lists.items byte;
}
