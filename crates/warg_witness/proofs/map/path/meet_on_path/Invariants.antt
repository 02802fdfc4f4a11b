use Rattle.std.proofs.Common.{◌≡◌}
use Rattle.warg_crypto.specs.EmptyTrees.{empty_root}
use Rattle.warg_map.specs.Bits.{last_bits}
use Rattle.warg_witness.specs.Private.MapMeeting.{IsBitClimb}
use Rattle.warg_witness.proofs.map.path.meet_on_path.Given as goal

abbrev pub invariant-loop-height : goal.invariant-loop-height
invariant-loop-height g l =
    (l.empty ≡ empty_root g.D.SupportedDigest.digest l.height)
    × IsBitClimb g.D.SupportedDigest.digest (l.fn.first.peers.now, l.fn.first.leaf)
    (l.fn.second.peers.now, l.fn.second.leaf)
    (last_bits l.key l.height) l.climb
