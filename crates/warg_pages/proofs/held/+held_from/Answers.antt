use Rattle.std.proofs.Common.{◌≡◌, ◌<◌, List, ℕ, get_or, Some, None, sym, ap, ◌∙◌, arith}
use Rattle.std.specs.Option.{option_copied}
use Rattle.warg_pages.specs.ChangedPages.{ChangedPageAt}
use Rattle.warg_pages.specs.Slots.{SlotAt}
use Rattle.warg_pages.specs.Pages.{slot_at}
use Rattle.warg_pages.proofs.Refused.{source_refused, of_source, if_ok, if_err}
use Rattle.warg_pages.proofs.HeldKeys as way
use Rattle.warg_pages.proofs.held.+held_from.Goals as goal
use Rattle.warg_pages.proofs.held.+held_from.Goals.{After-slot, In-Some}

pub returns-then-depth-eq32-clause-refused : goal.returns-then-depth-eq32-clause-refused
returns-then-depth-eq32-clause-refused g t c = λ known digest all is tells from.
    way.no_page _ _ _ _ _ digest all c.if-depth-eq32.true from

pub returns-in_err-page-clause-refused : goal.returns-in_err-page-clause-refused
returns-in_err-page-clause-refused g t c =
    let lt : c.args.depth < 32 = omega arith in
    source_refused _ _ c.from_residual.ensures.1
    (λ none known digest all is tells from. way.page_there _ _ _ _ c.args.depth c.args.version
    digest all lt (λ slots. none known slots is) tells from)
    (rw c.bytes-bytes.ensures.value at c.in_err-page.ensures.err)

-- the page that was read there, of a visit that begins there
is_read : (g : _) (t : _) (c : After-slot g t) (known : g.P.Pages.Known) (digest : List ℕ) (all : List ChangedPageAt)
    → g.P.Pages.IsKnown c.args.pages.now known → g.P.Pages.tells_all known
    → way.IsFrom g.D.SupportedDigest.digest (g.P.Pages.bytes_at known) (g.P.Pages.tells_all known) c.args.key.now
    c.args.depth c.args.version digest all
    → way.IsRead g.D.SupportedDigest.digest (g.P.Pages.bytes_at known) (g.P.Pages.tells_all known) c.args.key.now
    c.args.depth c.args.version digest all c.in_ok-page.page
is_read g t c known digest all is tells from = record {
  is_key = rw c.bytes-bytes.ensures.value at c.bytes-bytes.ensures.digest;
  above = omega arith;
  is_page = c.in_ok-page.ensures.page;
  stands = (let at = rw c.bytes-bytes.ensures.value at c.in_ok-page.ensures.ok in at known is);
  tells = tells;
  from = from;
}

-- the slot of the key digest's byte there
is_there : (g : _) (t : _) (c : In-Some g t)
    → slot_at c.in_ok-page.page (get_or c.args.key.now c.args.depth 0) ≡ Some c.in-Some.slot.now
is_there g t c = rw (← c.bytes-bytes.ensures.value) (sym c.slot.ensures ∙ ap option_copied c.in-Some.is)

pub returns-in_default-clause-held : goal.returns-in_default-clause-held
returns-in_default-clause-held g t c = λ known digest all is tells from.
    let at = (goal.at.returns-in_default-clause-held g t c).After-slot in
    way.missing_slot (is_read g t at known digest all is tells from)
    (rw (← c.bytes-bytes.ensures.value) (sym c.slot.ensures ∙ ap option_copied c.in_default.is))

pub returns-in-Some-lone-clause-held : goal.returns-in-Some-lone-clause-held
returns-in-Some-lone-clause-held g t c = λ known digest all is tells from.
    let at = goal.at.returns-in-Some-lone-clause-held g t c in
    way.alone_slot (is_read g t at.After-slot known digest all is tells from) c.in-Some.slot.now _
    c.held_alone.result (is_there g t at.In-Some)
    (rw (← c.slot-2.view_is) c.in-Some-lone.is) c.held_alone.ensures

pub returns-clause-held : goal.returns-clause-held
returns-clause-held g t c =
    let at = goal.at.returns-clause-held g t c in
    let lone : c.in-Some.slot.now.lone ≡ None = rw (← c.slot-2.view_is) c.in-None.is in
    if_ok c.held_from.result _ _ (rw (ap (λ (x : SlotAt). x.version) c.slot-2.view_is) at c.held_from.ensures.held)
    (λ held below known digest all is tells from.
    way.slot_below (is_read g t at.After-slot known digest all is tells from) _ held
    (is_there g t at.In-Some) lone
    (λ digest first. below known digest first (c.read_page.ensures.known known is) tells))

pub returns-clause-refused : goal.returns-clause-refused
returns-clause-refused g t c =
    let at = goal.at.returns-clause-refused g t c in
    let lone : c.in-Some.slot.now.lone ≡ None = rw (← c.slot-2.view_is) c.in-None.is in
    if_err c.held_from.result _ _ (rw (ap (λ (x : SlotAt). x.version) c.slot-2.view_is) at c.held_from.ensures.refused)
    (λ e. of_source e
    (λ none known digest all is tells from. way.none_below (is_read g t at.After-slot known digest all is tells from)
    c.in-Some.slot.now (is_there g t at.In-Some) lone
    (λ digest first. none known digest first (c.read_page.ensures.known known is) tells)))
