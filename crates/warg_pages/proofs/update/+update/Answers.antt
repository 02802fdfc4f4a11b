use Rattle.std.proofs.Common.{◌≡◌, ◌≢◌, ◌∙◌, ◌<◌, ◌++◌, [], ◌∷◌, List, ℕ, Option, None, IfSome, length, sym}
use Rattle.std.proofs.Common.{ap, arith, append_assoc}
use Rattle.std.proofs.lemmas.List.{append-nil, get_or-set_other}
use Rattle.std.proofs.lemmas.List.Elements.{All-nil, All-cons, All-append}
use Rattle.std.specs.List.{All, cons_option}
use Rattle.warg_pages.specs.Slots.{SlotAt, numbers}
use Rattle.warg_pages.specs.Pages.{page_digest}
use Rattle.warg_pages.specs.ChangedPages.{ChangedPageAt, ChangesWhatStood}
use Rattle.warg_pages.proofs.Refused.{source_refused}
use Rattle.warg_pages.proofs.HashEquality.{same_hashes, other_hashes}
use Rattle.warg_pages.proofs.ChangedAmong.{none_among, next_among}
use Rattle.warg_pages.proofs.WhatStood.{next_changes, named_next, page_stood, kept_more}
use Rattle.warg_pages.proofs.OwnUpdates.{slot_of_page, slots-more, slots_below, digest_before, page_updated}
use Rattle.warg_pages.proofs.update.+update.Goals as goal

pub slot_after-returns-in_ok-digest-in-Below-clause-ok : goal.slot_after-returns-in_ok-digest-in-Below-clause-ok
slot_after-returns-in_ok-digest-in-Below-clause-ok g t c =
    let prefix = c.args.update.now.prefix.items in
    let changes = c.args.update.now.changes.items in
    let byte = c.args.byte in
    let lt : byte < 256 = omega arith in
    let step = rw c.in-Below.is at c.in_ok-slot.ensures.ok in
    let own_step = rw c.in-Below.is at c.in_ok-slot.ensures.own in
    let done = c.in_ok-digest-in-Below.ensures.ok in (
      done.0,
      done.1,
      λ known old more is_known own.
          let update = own_step known is_known old more own in
          let updated = done.2 known old more (c.slot_update.ensures.known known is_known) update in
          slot_of_page prefix byte (rw step.0 at update) (rw step.0 at updated),
      λ root count more are stood.
          let next = next_changes _ g.met.D.SupportedDigest.is_digest prefix changes byte count more c.requires.short
          lt are in
          let named = named_next _ root prefix _ byte stood in
          done.3 root count more (rw (step.0, step.2) named) (rw (step.0, step.3) next),
    )

pub slot_after-returns-in_ok-digest-in-Below-clause-kept : goal.slot_after-returns-in_ok-digest-in-Below-clause-kept
slot_after-returns-in_ok-digest-in-Below-clause-kept g t c =
    λ none. (let step = rw c.in-Below.is at c.in_ok-slot.ensures.ok in absurd (step.4 none))

pub slot_after-returns-in-Whole-clause-ok : goal.slot_after-returns-in-Whole-clause-ok
slot_after-returns-in-Whole-clause-ok g t c =
    let own_step = rw c.in-Whole.is at c.in_ok-slot.ensures.own in (
      [],
      sym (append-nil c.args.changed.now.items),
      λ known old more is_known own. own_step known is_known old more own,
      λ root count more are stood. All-nil
          (ChangesWhatStood _ root more),
    )

pub update_page-loop-byte-init : goal.update_page-loop-byte-init
unfolding numbers
update_page-loop-byte-init g t c =
    let none = c.new-page.ensures in record {
      known = λ known is. is;
      below = rw none (λ k d lt. absurd (omega arith));
      changed = (
        [],
        sym (append-nil c.args.changed.now.items),
        λ known old more is_known own. (
          none,
          none_among _ old more _ (λ prefix kind changes. let low = kind.2 in omega arith),
        ),
        λ root count more are stood. All-nil
            (ChangesWhatStood _ root more),
      );
      split = (let lists = rw (c.as_slice-depth.ensures.value, c.as_slice.ensures.value) at
          c.in_ok-lists.ensures.ok in (lists.0, λ s low lt. lists.1 s lt));
      kept = λ s lt quiet. absurd (omega arith);
    }

pub update_page-loop-byte-preserved : goal.update_page-loop-byte-preserved
update_page-loop-byte-preserved g t c =
    let prefix = c.args.update.prefix.items in
    let byte = c.loop-byte.byte in
    let put = c.in_ok-put_behind.ensures.ok in
    let before = c.loop-byte.invariant.changed in
    let step = c.in_ok-slot.ensures.ok in record {
      known = λ known is. c.slot_after.ensures.known known (c.loop-byte.invariant.known known is);
      below = rw put (slots_below c.loop-byte.page _ byte c.loop-byte.invariant.below c.in_ok-slot.ensures.byte);
      changed = (
        before.0 ++ step.0,
        step.1 ∙ ap (λ l. l ++ step.0) before.1 ∙ append_assoc _ before.0 step.0,
        λ known old more is_known own.
            let front = before.2 known old more is_known own in
            let here = step.2 known old more (c.loop-byte.invariant.known known is_known) own.own in (
              put ∙ (λ i. front.0 i ++ cons_option (here.is_slot i) []) ∙ sym (slots-more _ byte),
              next_among _ old more prefix byte before.0 step.0 front.1 here.changed,
            ),
        λ root count more are stood. All-append (ChangesWhatStood _ root more) before.0 step.0
            (before.3 root count more are stood) (step.3 root count more are stood),
      );
      split = (
        c.loop-byte.invariant.split.0,
        λ s low lt d. let other : s ≢ byte = omega arith in rw get_or-set_other
            (c.loop-byte.invariant.split.1 s (omega arith) lt d),
      );
      kept = rw put (kept_more c.args.update.page c.loop-byte.page _ byte _ _ c.loop-byte.invariant.below
          c.in_ok-slot.ensures.byte c.loop-byte.invariant.kept c.in_ok-slot.ensures.kept);
    }

-- a slot goes behind those of lower bytes
behind : (slot : Option SlotAt) (slots : List SlotAt) (byte : ℕ) → IfSome slot (λ x. x.byte ≡ byte)
    → All (λ x. x.byte < byte) slots
    → IfSome slot (λ x. All (λ y. y.byte < x.byte) slots)
behind None slots byte is below = tt
behind _ slots byte is below = rw is below

pub update_page-put_behind-requires : goal.update_page-put_behind-requires
update_page-put_behind-requires g t c = behind _ _ _ c.in_ok-slot.ensures.byte
    c.loop-byte.invariant.below

pub update_page-returns-in_err-slot-clause-err : goal.update_page-returns-in_err-slot-clause-err
update_page-returns-in_err-slot-clause-err g t c =
    source_refused _ _ c.from_residual-in_err-slot.ensures.1
    (λ fault known old more is_known own. fault known old more (c.loop-byte.invariant.known known is_known) own.own)
    c.in_err-slot.ensures.err

pub update_page-returns-clause-ok : goal.update_page-returns-clause-ok
update_page-returns-clause-ok g t c =
    let prefix = c.args.update.prefix.items in
    let before = c.loop-byte.invariant.changed in
    let end : c.loop-byte.byte ≡ 256 = omega arith in
    let digest : c.page_roots-before.result.1 ≡ page_digest _ (length prefix) c.loop-byte.page =
    rw (c.slots-2.ensures.value, c.as_slice-depth.ensures.value) at c.page_roots-before.ensures.after in
    let name = c.into_prefix.ensures in
    let added = c.in_ok-add_page.ensures.ok in
    let one : List ChangedPageAt = record { prefix = prefix; version = c.args.update.version; page = c.loop-byte.page }
    ∷ [] in (
      before.0 ++ one,
      added ∙ (λ i. before.1 i ++ record {
        prefix = (name i).items;
        version = c.args.update.version;
        page = c.loop-byte.page;
      } ∷ []) ∙ append_assoc c.args.changed.now.items before.0 one,
      λ known old more is_known own.
          let done = rw end at (before.2 known old more is_known own) in
          rw digest (page_updated before.0 own c.requires done.0 done.1),
      λ root count more named are.
          let before_is : c.page_roots-before.result.0 ≡ page_digest _ (length prefix) c.args.update.page =
          rw (c.slots.ensures.value, c.as_slice-depth.ensures.value) at c.page_roots-before.ensures.before in
          let stood = named c.args.update.page (sym before_is ∙ same_hashes _ _ _ c.ne.ensures c.if-ne.false) in
          All-append (ChangesWhatStood _ root more) before.0 one (before.3 root count more are stood)
          (All-cons (ChangesWhatStood _ root more) _ []
          (page_stood _ g.met.D.SupportedDigest.is_digest root prefix c.args.update.version count more
          c.args.update.page c.loop-byte.page c.args.update.changes.items c.requires are stood
          (rw end at c.loop-byte.invariant.kept)) (All-nil (ChangesWhatStood _ root more))),
    )

pub update_page-returns-then-ne-clause-err : goal.update_page-returns-then-ne-clause-err
update_page-returns-then-ne-clause-err g t c = λ known old more is_known own.
    let prefix = c.args.update.prefix.items in
    let before : c.page_roots-before.result.0 ≡ page_digest _ (length prefix) c.args.update.page =
    rw (c.slots.ensures.value, c.as_slice-depth.ensures.value) at c.page_roots-before.ensures.before in
    other_hashes _ _ _ c.ne.ensures c.if-ne.true
    (before ∙ digest_before own c.requires)

pub update_page-returns-clause-digest : goal.update_page-returns-clause-digest
update_page-returns-clause-digest g t c =
    let prefix = c.args.update.prefix.items in
    let before : c.page_roots-before.result.0 ≡ page_digest _ (length prefix) c.args.update.page =
    rw (c.slots.ensures.value, c.as_slice-depth.ensures.value) at c.page_roots-before.ensures.before in
    sym before ∙ same_hashes _ _ _ c.ne.ensures c.if-ne.false
