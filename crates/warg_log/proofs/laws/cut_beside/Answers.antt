use Rattle.std.proofs.Common.{inr, arith}
use Rattle.std.proofs.lemmas.Nat.{pow_pos}
use Rattle.warg_log.proofs.CutLemmas.{cut_over_read}
use Rattle.warg_log.proofs.WayLemmas.{beside_decides, starts, counts}
use Rattle.warg_log.proofs.laws.cut_beside.Goals as goal

pub returns : goal.returns
returns c = λ H e r full beside.
    let misses = (beside_decides e.target r).0 beside in
    cut_over_read H e r (λ same. omega (arith, starts same, counts same, full.1, pow_pos full.0, misses))
    (inr (full, beside))
