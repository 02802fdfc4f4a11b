use Rattle.std.proofs.Common.{◌≡◌, true, sym, ap, ◌∙◌}
use Rattle.warg_pages.specs.Slots.{SlotAt}
use Rattle.warg_pages.proofs.PageFormat.{none_left, falls_back, some_left, read_more, IsPage-push}
use Rattle.warg_pages.proofs.page.MapPage.read.Goals as goal

pub returns-in_default-clause-bad : goal.returns-in_default-clause-bad
returns-in_default-clause-bad g c = λ refused ys page is.
    none_left _ _ ys _ c.slots.invariant.page page
    c.slots.invariant.read (some_left c.slots.rest.now (sym c.is_empty.ensures ∙ c.slots-test.true))
    c.in_default.ensures is

pub returns-then-not-goes_on-clause-bad : goal.returns-then-not-goes_on-clause-bad
returns-then-not-goes_on-clause-bad g c = λ refused ys page is.
    let back = rw (ap (λ (x : SlotAt). x.byte) c.slot.view_is, c.as_slice.ensures.value) at c.goes_on.ensures.1 in
    falls_back _ _ ys c.in-Some.slot c.slots.rest.now _
    c.slots.invariant.page page c.in-Some.ensures.0 c.slots.invariant.read c.in-Some.ensures.1
    (λ all. let yes : c.goes_on.result ≡ true = back all in absurd (cc (yes, c.if-not-goes_on.true))) is

pub slots-preserved : goal.slots-preserved
slots-preserved g c =
    let below = rw (ap (λ (x : SlotAt). x.byte) c.slot.view_is, c.as_slice.ensures.value) at
    (c.goes_on.ensures.0 c.if-not-goes_on.false) in
    rw c.in_ok-push.ensures.items record {
      read = read_more _ _ c.in-Some.slot c.slots.rest.now _
          c.slots.invariant.read c.in-Some.ensures.1;
      page = IsPage-push c.slots.slots.items c.in-Some.slot c.slots.invariant.page c.in-Some.ensures.0 below;
    }
