use Rattle.std.proofs.Common.{rules}
use Rattle.warg_pages.proofs.SplitChanges.{one_empty_more}
use Rattle.warg_pages.proofs.change.empty_lists.Goals as goal

pub loop-preserved : goal.loop-preserved
loop-preserved g c = record {
  size = search rules;
  each = λ byte lt d. rw c.in_ok-push.ensures.items (one_empty_more (λ list. list.items) c.loop.lists.items
      c.new.result d c.loop.counter byte (search rules) c.new.ensures.items (c.loop.invariant.each byte) lt);
}
