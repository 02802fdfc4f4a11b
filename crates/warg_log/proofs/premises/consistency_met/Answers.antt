use Rattle.std.proofs.Common.{[], arith}
use Rattle.warg_log.proofs.PremiseLemmas.{own, nothing}
use Rattle.warg_log.proofs.premises.consistency_met.Goals as goal

pub returns : goal.returns
returns c = record {
  leads = λ law. omega (arith, (law own nothing 0 0 [] []).some);
  met = λ law. cc (law own nothing 0 0 [] []);
}
