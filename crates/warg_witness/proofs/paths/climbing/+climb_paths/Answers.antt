use Rattle.std.proofs.Common.{arith}
use Rattle.std.proofs.lemmas.Bool.Decides.{nat_tests}
use Rattle.warg_witness.proofs.RecordLemmas.{turned, leaf_climb, part_up, part_nowhere}
use Rattle.warg_witness.proofs.paths.climbing.+climb_paths.Goals as goal

pub returns-then-is_empty-2 : goal.returns-then-is_empty-2
returns-then-is_empty-2 g t c = leaf_climb _ _ _ c.args.first_path.now c.args.second_path.now (grind (arith, nat_tests))
    (grind (arith, nat_tests)) (grind (arith, nat_tests))
    (rw (c.copied.ensures, c.copied-then-is_empty-2.ensures) at c.new.ensures)

pub returns-in_err-below : goal.returns-in_err-below
returns-in_err-below g t c =
    rw (
      c.from_residual-in_err-below.ensures,
      turned _ _ _ c.in_ok-first_top.ensures.cases.0,
      turned _ _ _ c.in_ok-second_top.ensures.cases.0,
    )
    (part_nowhere _ _ _ _ _ _ _ c.args.index c.args.count
    (rw (c.part_of-right.ensures.index, c.part_of-right.ensures.count) at c.in_err-below.ensures))

pub returns : goal.returns
returns g t c =
    rw (turned _ _ _ c.in_ok-first_top.ensures.cases.0, turned _ _ _ c.in_ok-second_top.ensures.cases.0)
    (part_up _ _ _ c.args.index c.args.count (omega arith)
    (rw (c.part_of-right.ensures.index, c.part_of-right.ensures.count) at c.in_ok-below.ensures)
    (rw c.part_of-right.ensures.right at c.up.ensures))
