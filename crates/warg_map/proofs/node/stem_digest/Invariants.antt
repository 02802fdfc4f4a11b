use Rattle.std.proofs.Common.{◌≡◌, ◌+◌, ◌-◌}
use Rattle.warg_crypto.specs.EmptyTrees.{empty_root}
use Rattle.warg_map.specs.Bits.{bits_from}
use Rattle.warg_map.specs.Private.Under.{stem_root}
use Rattle.warg_map.proofs.node.stem_digest.Given as goal

abbrev pub invariant-loop-above : goal.invariant-loop-above
invariant-loop-above g l =
    (l.hash ≡ stem_root g.D.SupportedDigest.digest (256 - (l.fn.from + l.fn.len)) l.below
    (bits_from l.key (l.fn.from + (l.fn.len - l.above)) l.above))
    × (l.empty ≡ empty_root g.D.SupportedDigest.digest (256 - (l.fn.from + l.fn.len) + l.above))
