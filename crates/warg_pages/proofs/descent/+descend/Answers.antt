use Rattle.std.proofs.Common.{◌≡◌, ◌<◌, ◌++◌, Some, None, get_or, sym, ap, ◌∙◌, arith}
use Rattle.std.proofs.lemmas.List.{append_assoc}
use Rattle.std.specs.Option.{option_copied}
use Rattle.warg_crypto.specs.Digests.{IsDigest}
use Rattle.warg_pages.specs.Slots.{SlotAt}
use Rattle.warg_pages.specs.Pages.{slot_at}
use Rattle.warg_pages.specs.Private.Descents.{page_peers}
use Rattle.warg_pages.proofs.Refused.{source_refused, way_refused, of_source, if_ok, if_err}
use Rattle.warg_pages.proofs.OwnWays.{own_page_there, own_page_value, own_lone_end, own_next_end, missing_way, missing_own, lone_way, lone_own, next_way, next_own, no_way}
use Rattle.warg_pages.proofs.descent.+descend.Goals as goal
use Rattle.warg_pages.proofs.descent.+descend.Goals.{After-bytes, In-Some}

is_key : (g : _) (t : _) (c : After-bytes g t) → IsDigest c.args.key.now
is_key g t c = rw c.bytes.ensures.value at c.bytes.ensures.digest

-- the slot of the key digest's byte there
is_there : (g : _) (t : _) (c : In-Some g t)
    → slot_at c.in_ok-page.page (get_or c.args.key.now c.args.depth 0) ≡ Some c.in-Some.slot.now
is_there g t c = sym c.in_ok-slot.ensures.slot ∙ ap option_copied c.in-Some.is

pub returns-then-depth-eq32-clause-err : goal.returns-then-depth-eq32-clause-err
returns-then-depth-eq32-clause-err g t c = λ known es is own. no_way _ _ _
    c.args.digest.now c.args.depth _ es c.if-depth-eq32.true own

pub returns-in_err-page-clause-err : goal.returns-in_err-page-clause-err
returns-in_err-page-clause-err g t c =
    let in_page = (goal.at.returns-in_err-page-clause-err g t c).After-bytes in
    source_refused _ _ c.from_residual.ensures.1
    (λ none known es is_known own. own_page_there g.met.D.SupportedDigest.is_digest own (omega arith)
    (is_key g t in_page) (λ slots. none known slots is_known))
    (rw c.bytes.ensures.value at c.in_err-page.ensures.err)

pub returns-in_err-slot-clause-err : goal.returns-in_err-slot-clause-err
returns-in_err-slot-clause-err g t c =
    let in_page = (goal.at.returns-in_err-slot-clause-err g t c).After-bytes in
    let at = rw c.bytes.ensures.value at c.in_ok-page.ensures.ok in
    way_refused _ _ c.from_residual-in_err-slot.ensures.1
    (λ other known es is_known own. own_page_value g.met.D.SupportedDigest.is_digest own (omega arith)
    (is_key g t in_page) c.pass_page.ensures.page (at known is_known) other) c.in_err-slot.ensures.err

pub returns-in_default-clause-ok : goal.returns-in_default-clause-ok
returns-in_default-clause-ok g t c =
    let in_page = (goal.at.returns-in_default-clause-ok g t c).After-bytes in
    let lt : c.args.depth < 32 = omega arith in
    let at = rw c.bytes.ensures.value at c.in_ok-page.ensures.ok in
    let none : slot_at c.in_ok-page.page (get_or c.args.key.now c.args.depth 0) ≡ None = sym c.in_ok-slot.ensures.slot
    ∙ ap option_copied c.in_default.is in (
      page_peers _ c.args.depth c.in_ok-page.page c.args.key.now,
      c.in_ok-slot.ensures.peers,
      missing_way _ _ _ c.args.depth c.in_ok-page.page lt c.in_ok-slot.ensures.value none,
      λ known es is_known own. missing_own g.met.D.SupportedDigest.is_digest own lt (is_key g t in_page)
          c.pass_page.ensures.page (at known is_known) none,
    )

pub returns-in_err-end_at-in-Some-lone-clause-err : goal.returns-in_err-end_at-in-Some-lone-clause-err
returns-in_err-end_at-in-Some-lone-clause-err g t c =
    let states = goal.at.returns-in_err-end_at-in-Some-lone-clause-err g t c in
    let at = rw c.bytes.ensures.value at c.in_ok-page.ensures.ok in
    let lone : c.in-Some.slot.now.lone ≡ Some c.in-Some-lone.lone = rw (← c.slot.view_is) c.in-Some-lone.is in
    way_refused _ _
    c.from_residual-in_err-end_at-in-Some-lone.ensures.1
    (λ fault known es is_known own. own_lone_end g.met.D.SupportedDigest.is_digest own (omega arith)
    (is_key g t states.After-bytes) c.pass_page.ensures.page (at known is_known) (is_there g t states.In-Some) lone
    fault) c.in_err-end_at-in-Some-lone.ensures.err

pub returns-in-Some-lone-clause-ok : goal.returns-in-Some-lone-clause-ok
returns-in-Some-lone-clause-ok g t c =
    let states = goal.at.returns-in-Some-lone-clause-ok g t c in
    let lt : c.args.depth < 32 = omega arith in
    let at = rw c.bytes.ensures.value at c.in_ok-page.ensures.ok in
    let there = is_there g t states.In-Some in
    let lone : c.in-Some.slot.now.lone ≡ Some c.in-Some-lone.lone = rw (← c.slot.view_is) c.in-Some-lone.is in
    let end = c.in_ok-end_at-in-Some-lone.ensures.ok in
    let peers = page_peers _ c.args.depth _ _ in (
      peers ++ end.0,
      end.1 ∙ ap (λ os. os ++ end.0) c.in_ok-slot.ensures.peers ∙ append_assoc c.args.peers.now.items peers end.0,
      lone_way _ c.args.key.now c.args.digest.now c.args.depth c.in_ok-page.page lt c.in_ok-slot.ensures.value there
          end.2,
      λ known es is_known own. lone_own g.met.D.SupportedDigest.is_digest own lt (is_key g t states.After-bytes)
          c.pass_page.ensures.page (at known is_known) there lone end.2,
    )

pub returns-clause-ok : goal.returns-clause-ok
returns-clause-ok g t c =
    let states = goal.at.returns-clause-ok g t c in
    let lt : c.args.depth < 32 = omega arith in
    let at = rw c.bytes.ensures.value at c.in_ok-page.ensures.ok in
    let there = is_there g t states.In-Some in
    let lone : c.in-Some.slot.now.lone ≡ None = rw (← c.slot.view_is) c.in-None.is in
    let peers = page_peers _ c.args.depth c.in_ok-page.page c.args.key.now in
    if_ok c.descend.result _ _ (rw (
      ap (λ (x : SlotAt). x.digest) c.slot.view_is,
      ap
          (λ (x : SlotAt). x.version) c.slot.view_is,
    ) at c.descend.ensures.ok) (λ held way. (
      peers ++ way.0,
      way.1 ∙ ap (λ os. os ++ way.0) c.in_ok-slot.ensures.peers ∙ append_assoc c.args.peers.now.items peers way.0,
      next_way _ c.args.key.now c.args.digest.now c.args.depth c.in_ok-page.page lt c.in_ok-slot.ensures.value there
          way.2,
      λ known es is_known own. next_own g.met.D.SupportedDigest.is_digest own lt (is_key g t states.After-bytes)
          c.pass_page.ensures.page (at known is_known) there lone
          (way.3 known es (c.read_page.ensures.known known is_known)),
    ))

pub returns-clause-err : goal.returns-clause-err
returns-clause-err g t c =
    let states = goal.at.returns-clause-err g t c in
    let at = rw c.bytes.ensures.value at c.in_ok-page.ensures.ok in
    let lone : c.in-Some.slot.now.lone ≡ None = rw (← c.slot.view_is) c.in-None.is in
    if_err c.descend.result _ _ (rw (
      ap (λ (x : SlotAt). x.digest) c.slot.view_is,
      ap
          (λ (x : SlotAt). x.version) c.slot.view_is,
    ) at c.descend.ensures.err) (λ e. of_source e
    (λ fault known es is_known own. own_next_end g.met.D.SupportedDigest.is_digest own (omega arith)
    (is_key g t states.After-bytes) c.pass_page.ensures.page (at known is_known) (is_there g t states.In-Some) lone
    (λ more. fault known more (c.read_page.ensures.known known is_known))))
