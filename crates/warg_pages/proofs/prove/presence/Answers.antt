use Rattle.std.proofs.Common.{◌≡◌, ◌-◌, sym, ap, ◌∙◌, unwrap_or}
use Rattle.warg_crypto.specs.EmptyTrees.{empty_root}
use Rattle.warg_pages.proofs.FinalPeers.{presence_more}
use Rattle.warg_pages.proofs.prove.presence.Goals as goal
use Rattle.warg_pages.proofs.prove.presence.Goals.{in-Some, in-None}

pub loop-at-preserved : goal.loop-at-preserved
loop-at-preserved g c =
    let H = g.D.SupportedDigest.digest in
    let empty = empty_root H (255 - c.loop-at.at) in
    let peer : c.match-peers-at.peer ≡ unwrap_or c.index-peers-at.result empty = elim c.match-peers-at.branch [
      | in-Some w ↦ w.peer-is ∙ w.copied-peer.ensures ∙ sym (ap (λ o. unwrap_or o empty) w.in-Some.is)
      | in-None w ↦ w.peer-is ∙ w.empty_tree-peer.ensures ∙ sym (ap (λ o. unwrap_or o empty) w.in-None.is)
    ] in
    rw (c.in_ok-push-2.ensures.items, c.loop-at.invariant, peer)
    (presence_more H c.args.peers.now c.loop-at.at c.index-peers-at.result c.loop-at-test.true c.index-peers-at.is)
