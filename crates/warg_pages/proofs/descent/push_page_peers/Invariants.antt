use Rattle.std.proofs.Common.{◌≡◌, ◌-◌, ◌++◌}
use Rattle.warg_pages.specs.Private.Descents.{peers_below}
use Rattle.warg_pages.proofs.descent.push_page_peers.Given as goal

abbrev pub invariant-loop-passed : goal.invariant-loop-passed
invariant-loop-passed g l =
    l.peers.items ++ peers_below g.D.SupportedDigest.digest l.depth l.slots l.byte (8 - l.passed)
    ≡ l.fn.peers.items ++ peers_below g.D.SupportedDigest.digest l.depth l.slots l.byte 8
