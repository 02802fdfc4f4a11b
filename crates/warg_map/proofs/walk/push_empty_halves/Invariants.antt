use Rattle.std.proofs.Common.{◌≡◌, ◌-◌, ◌++◌}
use Rattle.warg_map.specs.Private.Walk.{empty_half, empty_halves}
use Rattle.warg_map.proofs.walk.push_empty_halves.Given as goal

abbrev pub invariant-loop-height : goal.invariant-loop-height
invariant-loop-height g l = record {
  peers : l.peers.items ≡ l.fn.peers.items ++ empty_halves (empty_half g.D.SupportedDigest.digest l.fn.held) l.fn.from
      (l.height - l.fn.from);
  half : l.half ≡ empty_half g.D.SupportedDigest.digest l.fn.held l.height;
}
