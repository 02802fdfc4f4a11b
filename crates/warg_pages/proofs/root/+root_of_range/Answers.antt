use Rattle.std.proofs.Common.{◌≡◌, ◌+◌, ◌*◌, ◌^◌, ◌<◌, ◌≤◌, length, ◌-◌, ◌%◌, sym, ap, ◌∙◌, arith}
use Rattle.std.proofs.lemmas.Bool.{eqb-true}
use Rattle.std.proofs.lemmas.List.Elements.{All-take, All-drop}
use Rattle.warg_pages.specs.Slots.{SlotAt}
use Rattle.warg_pages.proofs.SlotRanges.{root_over-empty, root_over-one, root_over-halves, Ascends-take, Ascends-drop, halved, some_slots, shifted}
use Rattle.warg_pages.proofs.root.+root_of_range.Goals as goal

pub returns-then-is_empty : goal.returns-then-is_empty
returns-then-is_empty g t c =
    let none : length c.args.slots.now ≡ 0 = eqb-true _ 0 (sym c.is_empty.ensures ∙ c.if-is_empty.true) in
    c.empty_tree.ensures ∙ sym (root_over-empty _ c.args.height c.args.first c.args.levels _ none)

pub returns-then-levels-eq0 : goal.returns-then-levels-eq0
returns-then-levels-eq0 g t c =
    let some = some_slots _ (sym c.is_empty.ensures ∙ c.if-is_empty.false) in
    c.copied.ensures ∙ ap (λ (x : SlotAt). x.digest) (c.slot.view_is ∙ c.index-slots-0.is)
    ∙ sym (root_over-one _ c.args.height c.args.first c.args.levels _ _ some c.if-levels-eq0.true c.requires.from
    c.requires.to)

pub root_of_range-requires : goal.root_of_range-requires
root_of_range-requires g t c κs within =
    let xs = c.args.slots.now in
    let n = c.count_below.result in
    let shl = shifted (c.args.levels - 1) (omega arith) in
    let half = halved _ c.if-levels-eq0.false in (
      omega arith,
      (
        within,
        (
          rw c.split_at.ensures.front (Ascends-take n xs c.requires.ascend),
          (
            rw c.split_at.ensures.front (All-take (λ (x : SlotAt). c.args.first ≤ x.byte) n xs c.requires.from),
            (
              rw (c.split_at.ensures.front, ← shl) c.count_below.ensures.below,
              (omega arith, (omega arith, omega arith)),
            ),
          ),
        ),
      ),
    )

pub root_of_range-requires-2 : goal.root_of_range-requires-2
root_of_range-requires-2 g t c κs within =
    let xs = c.args.slots.now in
    let n = c.count_below.result in
    let shl = shifted (c.args.levels - 1) (omega arith) in
    let half = halved _ c.if-levels-eq0.false in
    let top : c.args.first + 2 ^ (c.args.levels - 1) + 2 ^ (c.args.levels - 1) ≡ c.args.first + 2 ^ c.args.levels =
    omega arith in (
      omega arith,
      (
        within,
        (
          rw c.split_at.ensures.back (Ascends-drop n xs c.requires.ascend),
          (
            rw c.split_at.ensures.back c.count_below.ensures.above,
            (
              rw (c.split_at.ensures.back, shl, top)
                  (All-drop (λ (x : SlotAt). x.byte < c.args.first + 2 ^ c.args.levels) n xs c.requires.to),
              (omega arith, (omega arith, omega arith)),
            ),
          ),
        ),
      ),
    )

pub returns : goal.returns
returns g t c =
    let middle : c.args.first + 1 * 2 ^ (c.args.levels - 1) % 2 ^ 64 ≡ c.args.first + 2 ^ (c.args.levels - 1) =
    ap (λ k. c.args.first + k) (shifted (c.args.levels - 1) (omega arith)) in
    rw (c.hash_branch.ensures, c.root_of_range.ensures, c.root_of_range-2.ensures)
    (root_over-halves _ c.args.height c.args.first c.args.levels _ _ _ _ _
    c.if-levels-eq0.false middle c.split_at.ensures.front c.split_at.ensures.back c.count_below.ensures.below
    c.count_below.ensures.above)
