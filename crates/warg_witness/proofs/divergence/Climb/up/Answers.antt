use Rattle.std.proofs.Common.{inl, inr, arith}
use Rattle.std.specs.Cmp.Lexicographic.{bytes_decides}
use Rattle.warg_witness.proofs.ClimbLemmas.{up_by}
use Rattle.warg_witness.proofs.divergence.Climb.up.Goals as goal
use Rattle.warg_witness.proofs.divergence.Climb.up.Goals.{then-eq, else-eq+in-Branch-1, else-eq+in-Target-1}

pub returns : goal.returns
returns g c = up_by c.args.right (omega arith) c.branch_beside.ensures c.branch_beside-2.ensures (elim c.if-eq.branch [
  | then-eq w ↦ inl (grind (arith, bytes_decides))
  | else-eq+in-Branch-1 w ↦ inr (
    grind (arith, bytes_decides),
    rw (← w.copied.ensures, ← w.copied-else-eq.ensures) w.result-is,
  )
  | else-eq+in-Target-1 w ↦ inr (
    grind (arith, bytes_decides),
    rw (← w.copied.ensures, ← w.copied-else-eq.ensures) w.result-is,
  )
])
