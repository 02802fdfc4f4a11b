use Rattle.std.proofs.Common.{◌≡◌, ℕ, ◌<◌, take, vec_len}
use Rattle.std.specs.List.{filter, HoldsAt}
use Rattle.warg_pages.specs.Private.Updates.{goes_to}
use Rattle.warg_pages.proofs.change.changes_by_byte.Given as goal

-- the lists have the changes so far
abbrev pub invariant-loop-change : goal.invariant-loop-change
invariant-loop-change g l = record {
  all : vec_len l.lists ≡ 256;
  each : (byte : ℕ) → byte < 256
      → HoldsAt (λ list. list.items ≡ filter (goes_to l.depth byte) (take l.change-index l.changes)) l.lists.items byte;
}
