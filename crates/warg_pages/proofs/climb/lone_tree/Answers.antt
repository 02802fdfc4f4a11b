use Rattle.std.proofs.Common.{arith}
use Rattle.warg_pages.proofs.BitParts.{lone_root-more}
use Rattle.warg_pages.proofs.climb.lone_tree.Goals as goal

pub loop-height-preserved : goal.loop-height-preserved
loop-height-preserved g c = record {
  value = λ leaf is. rw (
    c.branch-value.ensures,
    c.side_at.ensures,
    c.loop-height.invariant.empty,
    c.loop-height.invariant.value leaf is,
  ) (lone_root-more _ _ leaf c.loop-height.height (omega arith));
  empty = c.empty_above-empty.ensures;
}
