use Rattle.std.proofs.Common.{refl, ◌∙◌, arith}
use Rattle.warg_map.specs.Bits.{bits_from}
use Rattle.warg_pages.specs.Pages.{slot_height}
use Rattle.warg_pages.specs.Private.Descents.{value_above}
use Rattle.warg_pages.proofs.BitParts.{page_value-more}
use Rattle.warg_pages.proofs.climb.value_of_page.Goals as goal
use Rattle.warg_pages.proofs.climb.value_of_page.Goals.{in-Some, in-None}

pub loop-passed-init : goal.loop-passed-init
unfolding value_above bits_from
loop-passed-init g c = refl

pub loop-passed-preserved : goal.loop-passed-preserved
loop-passed-preserved g c =
    let H = g.D.SupportedDigest.digest in
    let step = page_value-more H (slot_height c.args.depth) c.args.peers.now _ c.args.foot
    c.args.key.now c.args.depth c.loop-passed.passed c.requires.eight (omega arith) c.index-peers-left.is in
    elim c.match-peers-left.branch [
      | in-Some w ↦ w.value-is ∙ w.branch-side.ensures ∙ rw (c.side_at-side.ensures, c.loop-passed.invariant)
          (rw w.in-Some.is at step)
      | in-None w ↦ w.value-is ∙ w.branch-value.ensures
          ∙ rw (c.side_at-side.ensures, c.loop-passed.invariant, w.empty_tree.ensures) (rw w.in-None.is at step)
    ]
