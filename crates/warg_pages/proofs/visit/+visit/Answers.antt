use Rattle.std.proofs.Common.{◌≡◌, ◌∙◌, ◌+◌, ◌-◌, ◌<◌, ◌++◌, [], ◌∷◌, Some, None, length, drop, refl, sym, ap, arith, add-one, append_assoc, length-append}
use Rattle.std.proofs.lemmas.List.{append-nil}
use Rattle.std.proofs.lemmas.Result.{on_ok_weaker}
use Rattle.std.proofs.Math.ListN.{drop_of_length-le}
use Rattle.std.proofs.Math.Seq.{drop-cons}
use Rattle.warg_pages.specs.Slots.{SlotAt}
use Rattle.warg_pages.specs.ChangedPages.{ChangedPageAt}
use Rattle.warg_pages.specs.Visits.{AreFromWhere, AreOfSlots, IsAllowed, IsLoneShown}
use Rattle.warg_pages.proofs.HashEquality.{same_hashes, other_hashes}
use Rattle.warg_pages.proofs.Refused.{way_refused, source_refused, of_source, if_err}
use Rattle.warg_pages.proofs.VisitedPages.{slots_more, no_slots, page_from, own_refused, own_page, own_digest, own_end, own_slot, own_below, own_lone}
use Rattle.warg_pages.proofs.visit.+visit.Goals as goal

pub visit_from-returns-then-prefix-eq32-clause-refused : goal.visit_from-returns-then-prefix-eq32-clause-refused
visit_from-returns-then-prefix-eq32-clause-refused g t c = λ known es is_known own.
    own_end own c.if-prefix-eq32.true

pub visit_from-returns-in_err-page-clause-refused : goal.visit_from-returns-in_err-page-clause-refused
visit_from-returns-in_err-page-clause-refused g t c =
    let lt : length c.args.prefix.now < 32 = omega arith in
    source_refused _ _ c.from_residual.ensures.1
    (λ none known es is_known own. own_refused g.met.D.SupportedDigest.is_digest own lt
    (λ slots. none known slots is_known)) c.in_err-page.ensures.err

pub visit_from-returns-then-ne-clause-refused : goal.visit_from-returns-then-ne-clause-refused
visit_from-returns-then-ne-clause-refused g t c = λ known es is_known own.
    let lt : length c.args.prefix.now < 32 = let le = c.requires in let ne = c.if-prefix-eq32.false in omega arith in
    other_hashes _ _ _ c.ne.ensures c.if-ne.true (c.digest.ensures ∙ own_digest g.met.D.SupportedDigest.is_digest
    own lt c.in_ok-page.ensures.page (c.in_ok-page.ensures.ok known is_known))

pub visit_from-slots-init : goal.visit_from-slots-init
visit_from-slots-init g t c = record {
  known = λ known is. c.read_page.ensures.known known is;
  seen = λ before has. (
    [],
    rw append-nil has,
    λ known rest is others. others,
  );
}

pub visit_from-returns-in_err-visit_slot-clause-refused : goal.visit_from-returns-in_err-visit_slot-clause-refused
visit_from-returns-in_err-visit_slot-clause-refused g t c =
    let lt : length c.args.prefix.now < 32 = let le = c.requires in let ne = c.if-prefix-eq32.false in omega arith in
    source_refused _ _
    c.from_residual-in_err-visit_slot.ensures.1
    (λ none known es is_known own.
    let page = own_page g.met.D.SupportedDigest.is_digest own lt c.in_ok-page.ensures.page
    (c.in_ok-page.ensures.ok known is_known) in
    none known es (c.slots.invariant.known known is_known)
    (own_slot own (c.slots-slot-items.ensures.value ∙ page) c.slots.slot-index _ c.slots-test.true c.slot-item.is))
    c.in_err-visit_slot.ensures.refused

pub visit_from-slots-preserved : goal.visit_from-slots-preserved
visit_from-slots-preserved g t c = record {
  known = λ known is. c.in_ok-visit_slot.ensures.known known (c.slots.invariant.known known is);
  seen = λ before has.
      let prefix = c.args.prefix.now in
      let items = c.slots-slot-items.result.now in
      let x = c.slot-item.result in
      let before_slot = c.slots.invariant.seen before has in
      let done = before_slot.0 in
      let at = c.in_ok-visit_slot.ensures.seen (before ++ done) before_slot.1 in
      let cut : drop c.slots.slot-index items ≡ x ∷ drop (c.slots.slot-index + 1) items =
      drop-cons items _ x c.slots-test.true
      ∙ (λ i. sym c.slot-item.is i ∷ drop (sym (add-one c.slots.slot-index) i) items) in (
        done ++ at.0,
        rw append_assoc at at.1,
        λ known rest is others.
            let Shown = IsLoneShown _ c.args.lone_keys in
            let From = AreFromWhere _ Shown _
            (31 - length prefix) in
            rw append_assoc (before_slot.2 known (at.0 ++ rest) is (slots_more Shown From prefix _ x _ at.0 rest cut
            (at.2 known (c.slots.invariant.known known is)) others)),
      );
}

pub visit_from-returns-clause-seen : goal.visit_from-returns-clause-seen
visit_from-returns-clause-seen g t c = λ before has.
    let prefix = c.args.prefix.now in
    let lt : length prefix < 32 = omega arith in
    let items = c.slots-slot-items.result.now in
    let page : ChangedPageAt = record { prefix = prefix; version = c.args.version; page = c.in_ok-page.page } in
    let first = c.in_ok-see.ensures.ok before has in
    let all = c.slots.invariant.seen (before ++ page ∷ []) first in (
      page ∷ all.0,
      rw append_assoc at all.1,
      λ known is.
          let Shown = IsLoneShown _ c.args.lone_keys in
          let IsThere = IsAllowed _ _ in
          let From = AreFromWhere _ Shown IsThere (31 - length prefix) in
          let others : AreOfSlots Shown From prefix items (all.0 ++ []) = all.2 known [] is
          (no_slots Shown From prefix _ (drop_of_length-le items c.slots-test.false)) in
          page_from _ Shown IsThere prefix c.args.digest.now c.args.version c.in_ok-page.page all.0 lt
          c.in_ok-page.ensures.page record {
            allowed = c.in_ok-page.ensures.ok known is;
            told = c.in_ok-page.ensures.told known is;
          } (sym c.digest.ensures ∙ same_hashes _ _ _ c.ne.ensures c.if-ne.false)
          (rw (append-nil, c.slots-slot-items.ensures.value) at others),
    )

pub visit_slot-returns-in_err-check_lone-in-Some-clause-refused : goal.visit_slot-returns-in_err-check_lone-in-Some-clause-refused
visit_slot-returns-in_err-check_lone-in-Some-clause-refused g t c =
    let lone : c.args.slot.now.lone ≡ Some c.in-Some.lone = rw (← c.slot.view_is) c.in-Some.is in
    way_refused _ _ c.from_residual.ensures.1
    (λ fault known es is_known own. fault (own_lone g.met.D.SupportedDigest.is_digest own c.requires lone))
    c.in_err-check_lone-in-Some.ensures.err

pub visit_slot-returns-in_ok-check_lone-in-Some-clause-seen : goal.visit_slot-returns-in_ok-check_lone-in-Some-clause-seen
visit_slot-returns-in_ok-check_lone-in-Some-clause-seen g t c = λ before has.
    let lone : c.args.slot.now.lone ≡ Some c.in-Some.lone = rw (← c.slot.view_is) c.in-Some.is in (
      [],
      rw append-nil has,
      λ known is. rw lone (refl, c.in_ok-check_lone-in-Some.ensures.ok),
    )

pub visit_slot-returns-in_ok-below-in-None-clause-refused : goal.visit_slot-returns-in_ok-below-in-None-clause-refused
visit_slot-returns-in_ok-below-in-None-clause-refused g t c =
    let none : c.args.slot.now.lone ≡ None = rw (← c.slot.view_is) c.in-None.is in
    let below = c.as_slice.ensures.value ∙ c.in_ok-below-in-None.ensures.ok
    ∙ ap (λ s. c.args.prefix.now ++ s ∷ []) (ap (λ (x : SlotAt). x.byte) c.slot.view_is) in
    if_err c.visit_from.result _ _ (rw (
      ap (λ (x : SlotAt). x.digest) c.slot.view_is,
      ap
          (λ (x : SlotAt). x.version) c.slot.view_is,
    ) at c.visit_from.ensures.refused)
    (λ e. of_source e (λ fault known es is_known own. fault known es is_known (own_below own below none)))

pub visit_slot-returns-in_ok-below-in-None-clause-seen : goal.visit_slot-returns-in_ok-below-in-None-clause-seen
visit_slot-returns-in_ok-below-in-None-clause-seen g t c =
    let prefix = c.args.prefix.now in
    let x = c.args.slot.now in
    let none : x.lone ≡ None = rw (← c.slot.view_is) c.in-None.is in
    let below = c.as_slice.ensures.value ∙ c.in_ok-below-in-None.ensures.ok
    ∙ ap (λ s. prefix ++ s ∷ []) (ap (λ (y : SlotAt). y.byte) c.slot.view_is) in
    let left : 32 - length c.as_slice.result.now ≡ 31 - length prefix =
    (let n = ap length below ∙ length-append prefix _ in omega arith) in
    on_ok_weaker c.visit_from.result (λ seen before has.
    let at = seen before has in (
      at.0,
      at.1,
      λ known is. rw none (rw (
        ap (λ (y : SlotAt). y.digest) c.slot.view_is,
        ap
            (λ (y : SlotAt). y.version) c.slot.view_is,
        left,
        below,
      ) at (at.2 known is)),
    )) c.visit_from.ensures.seen
