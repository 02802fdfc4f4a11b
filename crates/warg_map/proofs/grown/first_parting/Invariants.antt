use Rattle.std.proofs.Common.{◌≤◌, ◌<◌, ◌+◌, not, length, take}
use Rattle.warg_map.specs.Bits.{bit_at}
use Rattle.warg_map.specs.Private.Grown.{ShareBits, on_side}
use Rattle.warg_map.proofs.grown.first_parting.Given as goal

abbrev pub invariant-loop-leaf : goal.invariant-loop-leaf
invariant-loop-leaf g l = record {
  at_most : l.shared ≤ l.fn.len;
  same : ShareBits l.key l.from l.shared (take l.leaf-index l.leaf-items);
  apart : l.shared < l.fn.len → 0 < length (on_side (l.from + l.shared) (not (bit_at l.key (l.from + l.shared)))
      (take l.leaf-index l.leaf-items));
}
