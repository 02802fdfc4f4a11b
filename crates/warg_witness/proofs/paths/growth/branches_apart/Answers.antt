use Rattle.std.proofs.Common.{refl, arith}
use Rattle.std.specs.Cmp.Lexicographic.{bytes_decides}
use Rattle.warg_crypto.proofs.ForCallers.{branch_parts}
use Rattle.warg_witness.proofs.paths.growth.branches_apart.Goals as goal

pub returns : goal.returns
returns g c = rw (← c.plain_digest-first.ensures, ← c.plain_digest-second.ensures, c.copied.ensures, c.copied-2.ensures)
    (record {
      differ = λ same. let parts = branch_parts c.args.left.now c.args.right.now c.plain_digest-first.result
          c.plain_digest-second.result (omega arith) same in grind (arith, bytes_decides);
      are = refl;
    })
