use Rattle.std.proofs.Common.{◌≡◌, ◌+◌, ◌*◌, ◌%◌, ◌^◌, length, true, false, sym, ap, ◌∙◌, arith}
use Rattle.std.proofs.lemmas.Bool.{eqb-true}
use Rattle.std.specs.Bool.{then_some}
use Rattle.warg_pages.specs.Pages.{digest_at, root_over, slot_height}
use Rattle.warg_pages.specs.PagePeers.{page_peer, stands_among}
use Rattle.warg_pages.proofs.ByteNumbers.{beside_bytes}
use Rattle.warg_pages.proofs.SlotRanges.{root_over-part, shifted, some_slots, Ascends-take, Ascends-drop}
use Rattle.warg_pages.proofs.SlotsAmong.{none_among, some_among}
use Rattle.warg_pages.proofs.peers.peer_beside.Goals as goal

pub root_of_range-requires-clause-ascend : goal.root_of_range-requires-clause-ascend
root_of_range-requires-clause-ascend g c =
    rw (c.split_at-2.ensures.front, c.split_at.ensures.back)
    (Ascends-take _ _
    (Ascends-drop _ _ c.requires.page.ascend))

pub root_of_range-requires-clause-range : goal.root_of_range-requires-clause-range
root_of_range-requires-clause-range g c = rw c.start_beside-first.ensures
    (beside_bytes _ _ (omega arith) c.requires.height)

pub returns-then-is_empty : goal.returns-then-is_empty
returns-then-is_empty g c =
    let H = g.D.SupportedDigest.digest in
    let k = c.args.height in
    let first = c.start_beside-first.result in
    let xs = c.args.slots.now in
    let high : first + 1 * 2 ^ k % 2 ^ 64 ≡ first + 2 ^ k = ap (λ x. first + x) (shifted k c.requires.height) in
    let above = rw (high, c.split_at.ensures.back) at c.count_below-2.ensures.above in
    let none : length c.split_at-2.result.0.now ≡ 0 = eqb-true _ 0 (sym c.is_empty.ensures ∙ c.if-is_empty.true) in
    let there = rw (c.split_at-2.ensures.front, c.split_at.ensures.back) at none in
    let no : stands_among xs first k ≡ false = none_among first k _ _ xs c.count_below.ensures.below above there in
    sym (ap (λ t. then_some t (page_peer H c.args.depth xs c.args.byte k)) (rw c.start_beside-first.ensures at no))

pub returns : goal.returns
returns g c =
    let H = g.D.SupportedDigest.digest in
    let k = c.args.height in
    let first = c.start_beside-first.result in
    let xs = c.args.slots.now in
    let high : first + 1 * 2 ^ k % 2 ^ 64 ≡ first + 2 ^ k = ap (λ x. first + x) (shifted k c.requires.height) in
    let above = rw (high, c.split_at.ensures.back) at c.count_below-2.ensures.above in
    let below = rw (high, c.split_at.ensures.back) at c.count_below-2.ensures.below in
    let from = c.count_below.ensures.above in
    let some = some_slots _ (sym c.is_empty.ensures ∙ c.if-is_empty.false) in
    let there = rw (c.split_at-2.ensures.front, c.split_at.ensures.back) at some in
    let yes : stands_among xs first k ≡ true = some_among first k _ _ xs from below there c.count_below.ensures.below in
    let root : c.root_of_range.result ≡ page_peer H c.args.depth xs c.args.byte k =
    rw (c.root_of_range.ensures, c.split_at-2.ensures.front, c.split_at.ensures.back) (
    root_over-part H _ first k _ _ xs c.count_below.ensures.below above
    ∙ ap (λ f. root_over H (digest_at H (slot_height c.args.depth) xs) f k) c.start_beside-first.ensures) in
    rw root (sym (ap (λ t. then_some t (page_peer H c.args.depth xs c.args.byte k))
    (rw c.start_beside-first.ensures at yes)))
