use Rattle.std.proofs.Common.{◌-◌, arith}
use Rattle.warg_pages.proofs.SlotRanges.{halved, shifted}
use Rattle.warg_pages.proofs.root_pair.+roots_of_range.Goals as goal

pub halves-requires-clause-top : goal.halves-requires-clause-top
halves-requires-clause-top g t c = let half = halved _ c.if-levels-eq0.false in
    omega arith

pub halves-requires-2-clause-top : goal.halves-requires-2-clause-top
halves-requires-2-clause-top g t c = let half = halved _ c.if-levels-eq0.false in
    omega arith

pub roots_of_range-left-requires : goal.roots_of_range-left-requires
roots_of_range-left-requires g t c κs within =
    let half = halved _ c.if-levels-eq0.false in (
      omega arith,
      (
        within,
        (
          c.halves.ensures.left,
          (c.halves-2.ensures.left, (omega arith, (omega arith, omega arith))),
        ),
      ),
    )

pub roots_of_range-right-requires : goal.roots_of_range-right-requires
roots_of_range-right-requires g t c κs within =
    let half = halved _ c.if-levels-eq0.false in
    let shl = shifted (c.args.levels - 1) (omega arith) in (
      omega arith,
      (
        within,
        (
          rw shl c.halves.ensures.right,
          (rw shl c.halves-2.ensures.right, (omega arith, (rw shl (omega arith), omega arith))),
        ),
      ),
    )
