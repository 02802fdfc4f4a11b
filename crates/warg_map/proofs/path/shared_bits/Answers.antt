use Rattle.std.proofs.Common.{refl, sym, ◌∙◌}
use Rattle.warg_map.specs.Bits.{bits_from}
use Rattle.warg_map.proofs.SideBits.{same_bit}
use Rattle.warg_map.proofs.KeyBits.{bits_from-append}
use Rattle.warg_map.proofs.path.shared_bits.Goals as goal

pub loop-shared-init : goal.loop-shared-init
unfolding bits_from
loop-shared-init g c = refl

pub loop-shared-preserved : goal.loop-shared-preserved
unfolding bits_from
loop-shared-preserved g c =
    let i = c.args.from in
    let n = c.loop-shared.shared in
    let same = sym c.side_at.ensures ∙ same_bit _ _ (sym c.ne.ensures ∙ c.if-ne.false)
    ∙ c.side_at-in-loop-shared.ensures in
    rw (bits_from-append c.args.a.now i n 1, bits_from-append c.args.b.now i n 1, same, c.loop-shared.invariant)
