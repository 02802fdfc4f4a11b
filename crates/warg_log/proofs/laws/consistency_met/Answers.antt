use Rattle.warg_log.proofs.EvaluationLemmas.{consistency-only, consistency-then}
use Rattle.warg_log.proofs.laws.consistency_met.Goals as goal

pub returns-clause-only : goal.returns-clause-only
returns-clause-only c =
    consistency-only

pub returns-clause-then : goal.returns-clause-then
returns-clause-then c =
    consistency-then
