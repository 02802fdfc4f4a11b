use Rattle.std.proofs.Common.{refl, sym, ◌∙◌}
use Rattle.warg_map.specs.Bits.{bits_from}
use Rattle.warg_pages.proofs.SideBits.{same_bit}
use Rattle.warg_pages.proofs.BitParts.{one_bit_more}
use Rattle.warg_pages.proofs.bits.shared_bits.Goals as goal

pub loop-shared-init : goal.loop-shared-init
unfolding bits_from
loop-shared-init g c = refl

pub loop-shared-preserved : goal.loop-shared-preserved
loop-shared-preserved g c =
    let same = sym c.side_at.ensures ∙ same_bit _ _ (sym c.ne.ensures ∙ c.if-ne.false)
    ∙ c.side_at-in-loop-shared.ensures in
    one_bit_more _ _ _ c.loop-shared.invariant same
