use Rattle.std.proofs.Common.{◌≡◌, not}
use Rattle.warg_crypto.specs.Sides.{side_bit}
use Rattle.warg_map.specs.Private.Grown.{on_side}
use Rattle.warg_map.proofs.grown.parted.Given as goal

abbrev pub invariant-loop-leaf : goal.invariant-loop-leaf
invariant-loop-leaf g l = (l.near.items ≡ on_side l.at (side_bit l.side) l.yielded)
    × (l.far.items ≡ on_side l.at (not (side_bit l.side)) l.yielded)
