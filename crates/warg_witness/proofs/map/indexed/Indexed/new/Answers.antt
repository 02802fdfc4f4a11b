use Rattle.std.proofs.Common.{◌≡◌, ◌∙◌}
use Rattle.warg_crypto.specs.Bytes.{same_bytes}
use Rattle.warg_map.specs.Bits.{key_bits}
use Rattle.warg_map.specs.Last.{last_with, same_bits}
use Rattle.warg_witness.proofs.InsertionLemmas.{last_under-more, lent_more, same_digest_bits, looked_up_after, by_bytes}
use Rattle.warg_witness.proofs.map.indexed.Indexed.new.Goals as goal

pub loop-insertion-init : goal.loop-insertion-init
unfolding last_with
loop-insertion-init g c = λ key. rw c.new-last.ensures.empty

pub loop-insertion-preserved : goal.loop-insertion-preserved
loop-insertion-preserved g c = λ key.
    let H = g.D.SupportedDigest.digest in
    let kb = g.K.VisitBytes.bytes in
    let vb = g.V.VisitBytes.bytes in
    let e = c.insertion-item.result in
    let test : same_bytes c.of.result (H key) ≡ same_bits (key_bits H key) (key_bits H (kb e.0)) =
    rw c.of.ensures (same_digest_bits H g.met.D.SupportedDigest.is_digest key (kb e.0)) in
    let es = c.args.insertions.now in
    let more = last_under-more kb vb es H key _ e c.loop-insertion-test.true c.insertion-item.is in
    let updates = c.in_ok-insert.ensures.updates in
    let put = looked_up_after _ by_bytes c.loop-insertion.last c.insert.new.self _ _ updates (H key) in
    more ∙ lent_more kb vb _ _ _ _ _ put test _ (c.loop-insertion.invariant key)
