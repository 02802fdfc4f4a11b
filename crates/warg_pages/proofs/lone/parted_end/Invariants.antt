use Rattle.std.proofs.Common.{◌≡◌, ◌+◌, ◌-◌, ◌*◌, ◌++◌, None}
use Rattle.std.specs.Prelude.{replicate}
use Rattle.warg_pages.proofs.lone.parted_end.Given as goal

abbrev pub invariant-loop-bit : goal.invariant-loop-bit
invariant-loop-bit g l = l.peers.items ≡ l.fn.peers.items ++ replicate (l._bit - (8 * l.depth + 8)) None
