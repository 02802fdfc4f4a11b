use Rattle.std.proofs.Common.{◌≡◌, ◌+◌, ◌-◌, ◌++◌, suc, sym, ap, ◌∙◌, arith}
use Rattle.std.proofs.lemmas.List.{append_assoc, append-nil}
use Rattle.warg_pages.specs.Private.Descents.{peers_below}
use Rattle.warg_pages.proofs.descent.push_page_peers.Goals as goal

pub loop-passed-preserved : goal.loop-passed-preserved
unfolding peers_below
loop-passed-preserved g c =
    let below = peers_below _ c.args.depth c.args.slots.now c.args.byte in
    let next : 8 - (c.loop-passed.passed + 1) ≡ 7 - c.loop-passed.passed = omega arith in
    let this : 8 - c.loop-passed.passed ≡ suc (7 - c.loop-passed.passed) = omega arith in
    rw (c.in_ok-push.ensures.items, c.peer_beside.ensures, next)
    (append_assoc c.loop-passed.peers.items _ _
    ∙ ap (λ n. c.loop-passed.peers.items ++ below n) (sym this) ∙ c.loop-passed.invariant)

pub returns-clause-ok : goal.returns-clause-ok
unfolding peers_below
returns-clause-ok g c =
    let H = g.D.SupportedDigest.digest in
    let none : 8 - c.loop-passed.passed ≡ 0 = omega arith in
    sym (append-nil c.loop-passed.peers.items)
    ∙ ap (λ n. c.loop-passed.peers.items ++ peers_below H c.args.depth c.args.slots.now c.args.byte n) (sym none)
    ∙ c.loop-passed.invariant
