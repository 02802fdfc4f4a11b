use Rattle.std.proofs.Common.{◌≡◌, ◌*◌, length, drop, get_or, sym, ap, ◌∙◌}
use Rattle.std.specs.Option.{option_copied}
use Rattle.std.proofs.lemmas.List.{drop_at}
use Rattle.warg_map.specs.Bits.{bits_from}
use Rattle.warg_pages.specs.Slots.{SlotAt}
use Rattle.warg_pages.specs.Pages.{digest_at, slot_height}
use Rattle.warg_pages.specs.Private.Descents.{value_above, page_peers, page_value}
use Rattle.warg_pages.proofs.HashEquality.{same_hashes, other_hashes}
use Rattle.warg_pages.proofs.OwnWays.{eight_peers}
use Rattle.warg_pages.proofs.descent.pass_page.Goals as goal
use Rattle.warg_pages.proofs.descent.pass_page.Goals.{in-Some, in-None, After-split_at, After-value_of_page}
use Rattle.warg_pages.proofs.NumberedSlots.{digest_at-slot, digest_of}

-- the peers behind those of the pages above are the page's own
own_part : (g : _) (c : After-split_at g) → c.split_at.result.1.now
    ≡ page_peers g.D.SupportedDigest.digest c.args.depth c.args.page.now c.args.key.now
own_part g c =
    let own = page_peers _ _ _ _ in
    let before = c.as_slice-before.result.now in
    let pushed = rw (c.slots.ensures.value, c.bytes.ensures.value) at c.in_ok-push_page_peers.ensures.ok in
    c.split_at.ensures.back ∙ ap (drop (length before)) (c.as_slice.ensures.value ∙ pushed)
    ∙ drop_at _ own _ (ap length (sym c.as_slice-before.ensures.value))

-- and with the digest of the slot they give the page's value
value_is : (g : _) (c : After-value_of_page g) → c.split_at.result.1.now
    ≡ page_peers g.D.SupportedDigest.digest c.args.depth c.args.page.now c.args.key.now → c.value_of_page.result
    ≡ page_value g.D.SupportedDigest.digest c.args.depth c.args.page.now c.args.key.now
value_is g c part =
    let H = g.D.SupportedDigest.digest in
    let height = slot_height c.args.depth in
    let byte = get_or c.args.key.now c.args.depth 0 in
    let at = rw c.bytes.ensures.value at c.slot-slot.ensures in
    let as_digest = digest_at-slot H height _ byte in
    let foot : c.match-slot.foot ≡ digest_at H height c.args.page.now byte = elim c.match-slot.branch [
      | in-Some w ↦ w.foot-is ∙ w.copied-foot.ensures ∙ ap (λ (x : SlotAt). x.digest) w.slot.view_is
          ∙ sym (as_digest ∙ ap (digest_of H height) (sym at ∙ ap option_copied w.in-Some.is))
      | in-None w ↦ w.foot-is ∙ w.empty_tree-foot.ensures
          ∙ sym (as_digest ∙ ap (digest_of H height) (sym at ∙ ap option_copied w.in-None.is))
    ] in
    c.value_of_page.ensures ∙ (λ i. value_above H height (part i) (foot i)
    (bits_from c.args.key.now (8 * c.args.depth) 8))

pub value_of_page-requires-clause-eight : goal.value_of_page-requires-clause-eight
value_of_page-requires-clause-eight g c =
    rw (own_part g (goal.at.value_of_page-requires-clause-eight g c).After-split_at)
    (eight_peers _ c.args.depth _ _ 8)

pub returns-then-ne-clause-err : goal.returns-then-ne-clause-err
returns-then-ne-clause-err g c = λ same.
    let at = goal.at.returns-then-ne-clause-err g c in
    other_hashes _ _ _ c.ne.ensures c.if-ne.true
    (value_is g at.After-value_of_page (own_part g at.After-split_at) ∙ same)

pub returns-clause-value : goal.returns-clause-value
returns-clause-value g c =
    let at = goal.at.returns-clause-value g c in
    sym (value_is g at.After-value_of_page (own_part g at.After-split_at))
    ∙ same_hashes _ _ _ c.ne.ensures c.if-ne.false
