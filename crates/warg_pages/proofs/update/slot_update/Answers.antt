use Rattle.std.proofs.Common.{◌≡◌, ◌↔◌, ◌∙◌, IsTrue, ◌<◌, ◌++◌, List, [], ◌∷◌, Some, length, refl, sym, ap}
use Rattle.std.proofs.Common.{arith, inl, inr, length-append}
use Rattle.std.proofs.lemmas.Bool.{cases_lt, iff_false}
use Rattle.std.specs.Option.{option_copied}
use Rattle.std.specs.List.{filter}
use Rattle.warg_pages.specs.Pages.{slot_at}
use Rattle.warg_pages.specs.Private.Updates.{ChangeAt, goes_to, StaysAlone, lone_slot}
use Rattle.warg_pages.proofs.Refused.{way_refused, source_refused}
use Rattle.warg_pages.proofs.ChangesBelow.{last_of, last_of-get}
use Rattle.warg_pages.proofs.OwnUpdates.{own_below, slot_stays, slot_alone, page_changes, none_at_last, slot_has_digest, slot_at-byte}
use Rattle.warg_pages.proofs.update.slot_update.Goals as goal
use Rattle.warg_pages.proofs.update.slot_update.Goals.{After-last, After-stays_alone}

-- the last of the changes there
last_there : (g : _) (c : After-last g)
    → last_of (filter (goes_to (length c.args.update.now.prefix.items) c.args.byte) c.args.update.now.changes.items)
    ≡ option_copied c.last.result
last_there g c =
    rw (← c.requires.there) (sym (last_of-get c.args.there.items)
    ∙ sym (rw c.as_slice.ensures.value at c.last.ensures.value))

pub returns-in_default-clause-ok : goal.returns-in_default-clause-ok
returns-in_default-clause-ok g c =
    let same : c.copied_slot.result ≡ slot_at c.args.update.now.page c.args.byte = c.copied_slot.ensures
    ∙ c.slot-slot.ensures in
    rw same (slot_at-byte c.args.update.now.page c.args.byte, λ none. refl)

pub returns-in_default-clause-own : goal.returns-in_default-clause-own
returns-in_default-clause-own g c = λ known is_known.
    let none = last_there g (goal.at.returns-in_default-clause-own g c).After-last ∙ ap option_copied c.in_default.is in
    let same : c.copied_slot.result ≡ slot_at c.args.update.now.page c.args.byte = c.copied_slot.ensures
    ∙ c.slot-slot.ensures in
    rw same (λ old more own. slot_stays g.met.D.SupportedDigest.is_digest own c.args.byte c.requires.short (omega arith)
    none)

pub returns-in_err-slot-clause-err : goal.returns-in_err-slot-clause-err
returns-in_err-slot-clause-err g c =
    way_refused _ _ c.from_residual.ensures.1
    (λ fault known old more is_known own.
    fault (slot_has_digest g.met.D.SupportedDigest.is_digest own c.args.byte c.requires.short (omega arith)))
    (rw (c.as_slice-prefix.ensures.value, c.slot-slot.ensures) at c.in_err-slot.ensures.err)

-- so there are changes there
none_differs : {X : Type 0} {xs : List X} {x : X} → last_of xs ≡ Some x → xs ≡ [] → ⊥
none_differs {X} {xs} {x} is none = cc

-- whether its key digest stands alone there
stays_alone : (g : _) (c : After-stays_alone g)
    → IsTrue c.stays_alone.result ↔ StaysAlone c.in-Some.last.now.key (slot_at c.args.update.now.page c.args.byte)
    (filter (goes_to (length c.args.update.now.prefix.items) c.args.byte) c.args.update.now.changes.items)
stays_alone g c =
    rw (
      ap (λ (x : ChangeAt). x.key) c.last-2.view_is,
      c.slot-slot.ensures,
      c.as_slice-2.ensures.value,
      c.requires.there,
    ) at c.stays_alone.ensures

pub returns-then-stays_alone-clause-ok : goal.returns-then-stays_alone-clause-ok
returns-then-stays_alone-clause-ok g c =
    let last = c.in-Some.last.now in
    let is = last_there g (goal.at.returns-then-stays_alone-clause-ok g c).After-last ∙ ap option_copied c.in-Some.is in
    let new : c.in_ok-slot.slot ≡ lone_slot g.D.SupportedDigest.digest (length c.args.update.now.prefix.items)
    c.args.byte last.version (last.key, last.leaf) = rw c.as_slice-prefix.ensures.value at c.in_ok-slot.ensures.ok in
    rw new (refl, λ none. absurd (none_differs is none))

pub returns-then-stays_alone-clause-own : goal.returns-then-stays_alone-clause-own
returns-then-stays_alone-clause-own g c = λ known is_known.
    let at = goal.at.returns-then-stays_alone-clause-own g c in
    let last = c.in-Some.last.now in
    let stays = (stays_alone g at.After-stays_alone).0 c.if-stays_alone.true in
    let new : c.in_ok-slot.slot ≡ lone_slot g.D.SupportedDigest.digest (length c.args.update.now.prefix.items)
    c.args.byte last.version (last.key, last.leaf) = rw c.as_slice-prefix.ensures.value at c.in_ok-slot.ensures.ok in
    rw new (λ old more own. slot_alone g.met.D.SupportedDigest.is_digest own c.args.byte c.requires.short (omega arith)
    last (last_there g at.After-last ∙ ap option_copied c.in-Some.is) stays)

pub returns-in_err-below-clause-err : goal.returns-in_err-below-clause-err
returns-in_err-below-clause-err g c =
    let at = goal.at.returns-in_err-below-clause-err g c in
    let gives = g.met.D.SupportedDigest.is_digest in
    let byte = c.args.byte in
    let lt : byte < 256 = omega arith in
    source_refused _ c.in_err-below.field-0.0 c.from_residual-in_err-below.ensures.1
    (λ fault known old more is_known own. elim (cases_lt (length c.args.update.now.prefix.items) 31) [
      | inl low ↦ fault low known old is_known (own_below gives own byte c.requires.short lt)
      | inr high ↦ none_at_last gives own byte c.requires.short lt c.in-Some.last.now (omega arith)
          (last_there g at.After-last ∙ ap option_copied c.in-Some.is)
          (iff_false (stays_alone g at.After-stays_alone) c.if-stays_alone.false)
    ])
    (rw (c.as_slice-prefix.ensures.value, c.slot-slot.ensures) at c.in_err-below.ensures.err)

pub returns-clause-ok : goal.returns-clause-ok
returns-clause-ok g c =
    let prefix = c.args.update.now.prefix.items in
    let byte = c.args.byte in
    let is = last_there g (goal.at.returns-clause-ok g c).After-last ∙ ap option_copied c.in-Some.is in
    let ok = rw (c.as_slice-prefix.ensures.value, c.slot-slot.ensures) at c.in_ok-below.ensures.ok in
    let few : length (prefix ++ byte ∷ []) < 32 = let n = length-append prefix (byte ∷ []) in omega arith in
    rw (ok.1, ok.3, ok.4, c.requires.there) (refl, few, refl, refl, none_differs is)

pub returns-clause-own : goal.returns-clause-own
returns-clause-own g c = λ known is_known old more own.
    let at = goal.at.returns-clause-own g c in
    let last = c.in-Some.last.now in
    let is = last_there g at.After-last ∙ ap option_copied c.in-Some.is in
    let alone = iff_false (stays_alone g at.After-stays_alone) c.if-stays_alone.false in
    let ok = rw (c.as_slice-prefix.ensures.value, c.slot-slot.ensures) at c.in_ok-below.ensures.ok in
    rw (ok.1, ok.2, ok.3, ok.4, c.requires.there, ap (λ (x : ChangeAt). x.version) c.last-2.view_is)
    (page_changes g.met.D.SupportedDigest.is_digest own c.args.byte c.requires.short (omega arith) last
    c.in_ok-below.below.page ok.0 is alone (ok.5 known is_known))
