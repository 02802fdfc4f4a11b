use Rattle.std.proofs.Common.{◌≡◌, ◌++◌, take}
use Rattle.warg_pages.specs.Private.Finals.{filled_from}
use Rattle.warg_pages.proofs.FinalPeers.{lone_peer}
use Rattle.warg_pages.proofs.prove.presence.Given as goal

abbrev pub invariant-loop-at : goal.invariant-loop-at
invariant-loop-at g l = l.filled.items ≡ lone_peer g.D.SupportedDigest.digest l.peers
    ++ filled_from g.D.SupportedDigest.digest 0 (take l.at l.peers)
