use Rattle.std.proofs.Common.{◌≡◌, ◌∙◌, refl, Some, None, sym, ap}
use Rattle.std.specs.Option.{option_copied}
use Rattle.warg_pages.specs.Slots.{SlotAt}
use Rattle.warg_pages.proofs.Refused.{way_refused, of_source, if_ok_both, if_err}
use Rattle.warg_pages.proofs.OwnBelow.{nothing_below, own_lone_below, own_page_below, own_page_refused}
use Rattle.warg_pages.proofs.below.page_below.Goals as goal

pub returns-in_default-clause-ok : goal.returns-in_default-clause-ok
returns-in_default-clause-ok g c = λ known is_known es own.
    c.new.ensures ∙ sym (nothing_below _ es _ own.byte _ refl (sym (ap option_copied c.in_default.is) ∙ own.is_slot))

pub returns-in_err-one_down-in-Some-lone-clause-err : goal.returns-in_err-one_down-in-Some-lone-clause-err
returns-in_err-one_down-in-Some-lone-clause-err g c =
    let there : c.in-Some.slot.now.lone ≡ Some c.in-Some-lone.lone = rw (← c.slot.view_is) c.in-Some-lone.is in
    way_refused _ _ c.from_residual.ensures.1
    (λ fault known es is_known own.
    fault (own_lone_below g.met.D.SupportedDigest.is_digest (rw (ap option_copied c.in-Some.is) at own) c.requires
    there).begins)
    c.in_err-one_down-in-Some-lone.ensures.err

pub returns-in_ok-one_down-in-Some-lone-clause-ok : goal.returns-in_ok-one_down-in-Some-lone-clause-ok
returns-in_ok-one_down-in-Some-lone-clause-ok g c = λ known is_known es own.
    let there : c.in-Some.slot.now.lone ≡ Some c.in-Some-lone.lone = rw (← c.slot.view_is) c.in-Some-lone.is in
    c.in_ok-one_down-in-Some-lone.ensures.ok
    ∙ sym (own_lone_below g.met.D.SupportedDigest.is_digest (rw (ap option_copied c.in-Some.is) at own) c.requires
    there).page

pub returns-in-None-clause-ok : goal.returns-in-None-clause-ok
returns-in-None-clause-ok g c =
    let none : c.in-Some.slot.now.lone ≡ None = rw (← c.slot.view_is) c.in-None.is in
    if_ok_both c.read_page.result _ _ _ (rw (ap (λ (x : SlotAt). x.version) c.slot.view_is) at c.read_page.ensures.ok)
    c.read_page.ensures.page
    (λ page at is known is_known es own.
    own_page_below g.met.D.SupportedDigest.is_digest (rw (ap option_copied c.in-Some.is) at own) c.requires is
    (at known is_known) none)

pub returns-in-None-clause-err : goal.returns-in-None-clause-err
returns-in-None-clause-err g c =
    let none : c.in-Some.slot.now.lone ≡ None = rw (← c.slot.view_is) c.in-None.is in
    if_err c.read_page.result _ _ (rw (ap (λ (x : SlotAt). x.version) c.slot.view_is) at c.read_page.ensures.err)
    (λ e. of_source e
    (λ fault known es is_known own.
    own_page_refused g.met.D.SupportedDigest.is_digest (rw (ap option_copied c.in-Some.is) at own) c.requires
    (λ slots. fault known slots is_known) none))
