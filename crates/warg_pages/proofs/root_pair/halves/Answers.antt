use Rattle.std.proofs.Common.{◌≡◌, ◌+◌, ◌-◌, ◌^◌, ◌<◌, suc, sym, ap, arith}
use Rattle.std.proofs.lemmas.List.Elements.{All-drop, All-weaker}
use Rattle.warg_pages.specs.Slots.{SlotAt}
use Rattle.warg_pages.proofs.SlotRanges.{root_over-halves, Ascends-drop, shifted}
use Rattle.warg_pages.proofs.root_pair.halves.Goals as goal

pub returns-clause-right : goal.returns-clause-right
returns-clause-right g c =
    let xs = c.args.slots.now in
    let n = c.count_below.result in
    let shl = shifted _ c.requires.levels in
    let double : 2 ^ (c.args.half + 1) ≡ 2 ^ c.args.half + 2 ^ c.args.half =
    (let next : c.args.half + 1 ≡ suc c.args.half = omega arith in rw next (omega arith)) in
    record {
      ascend = rw c.split_at.ensures.back (Ascends-drop n xs c.requires.range.ascend);
      from = rw c.split_at.ensures.back (rw shl at c.count_below.ensures.above);
      to = rw c.split_at.ensures.back
          (All-drop (λ (x : SlotAt). x.byte < c.args.first + 2 ^ c.args.half + 2 ^ c.args.half) n xs
          (All-weaker (λ (x : SlotAt). x.byte < c.args.first + 2 ^ (c.args.half + 1))
          (λ (x : SlotAt). x.byte < c.args.first + 2 ^ c.args.half + 2 ^ c.args.half)
          (λ x lt. omega arith) xs c.requires.range.to));
    }

pub returns-clause-joined : goal.returns-clause-joined
returns-clause-joined g c = λ H height.
    let shl = shifted _ c.requires.levels in
    let one : c.args.half + 1 - 1 ≡ c.args.half = omega arith in
    rw one at (root_over-halves H height _ _ _ _ _ _ _ (λ e. omega arith)
    (ap (λ k. c.args.first + 2 ^ k) (sym one)) c.split_at.ensures.front c.split_at.ensures.back
    (rw shl at c.count_below.ensures.below) (rw shl at c.count_below.ensures.above))
