use Rattle.std.proofs.Common.{◌≡◌, ◌∙◌, ◌<◌, length, get_or, ap, rules}
use Rattle.std.proofs.lemmas.List.{take_all}
use Rattle.warg_pages.specs.Private.Updates.{ChangeAt}
use Rattle.warg_pages.proofs.SplitChanges.{put_more}
use Rattle.warg_pages.proofs.change.changes_by_byte.Goals as goal

pub loop-change-preserved : goal.loop-change-preserved
loop-change-preserved g c =
    let depth = c.args.depth in
    let x = c.change-item.result in
    let key : c.bytes.result.now ≡ x.key = c.bytes.ensures.value ∙ ap (λ (y : ChangeAt). y.key) c.change.view_is in
    let within : get_or c.bytes.result.now depth 0 < length c.loop-change.lists.items = search rules in
    let is_own = rw key at c.index_mut-list.ensures.value in
    let pushed = rw c.copied.ensures at c.in_ok-push.ensures.items in
    record {
      all = search rules;
      each = λ byte lt d.
          rw key (put_more depth c.args.changes.now _ x c.loop-change-test.true c.change-item.is (λ list. list.items)
          c.loop-change.lists.items _ _ d byte
          (rw key at within) is_own pushed (c.loop-change.invariant.each byte lt));
    }

pub returns-clause-ok : goal.returns-clause-ok
returns-clause-ok g c =
    let all = take_all _ _ c.loop-change-test.false in
    (c.loop-change.invariant.all, rw all at c.loop-change.invariant.each)
