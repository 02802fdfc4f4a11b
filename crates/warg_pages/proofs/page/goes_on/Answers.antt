use Rattle.std.proofs.Common.{◌≡◌, ◌-◌, length, ap, arith}
use Rattle.std.proofs.lemmas.Bool.{ltb-true, lt-ltb}
use Rattle.warg_pages.specs.Slots.{SlotAt}
use Rattle.warg_pages.proofs.PageFormat.{behind_last}
use Rattle.warg_pages.proofs.page.goes_on.Goals as goal

pub returns-in-Some : goal.returns-in-Some
returns-in-Some g c =
    let item = c.in-Some.ensures.item in
    let byte : c.last-in-Some.inside.byte ≡ c.in-Some.last.now.byte =
    ap (λ (x : SlotAt). x.byte) c.last-in-Some.view_is in
    let some = item.3.0 in (
      λ low. behind_last c.args.slots.now _ c.args.byte c.requires some item.3.1
          (rw byte at (ltb-true c.last-in-Some.inside.byte c.args.byte low)),
      λ all.
          let at = all (length c.args.slots.now - 1) c.in-Some.last.now (omega arith) in
          let last = rw (← item.1) at at in
          lt-ltb _ c.args.byte (omega arith),
    )
