use Rattle.std.proofs.lemmas.Result.{err_from_is_err_and}
use Rattle.warg_log.proofs.EvaluationLemmas.{EvaluationFault, passed_on, new_root_evaluates}
use Rattle.warg_log.proofs.consistency.ConsistencyProof.evaluate.Goals as goal
use Rattle.warg_log.proofs.consistency.ConsistencyProof.evaluate.Goals.{After-from_residual}

fault : (g : _) (c : After-from_residual g) → EvaluationFault c.from_residual.result
fault g c =
    let p = err_from_is_err_and c.from_residual.result c.from_residual.ensures.1 in
    passed_on _ _ _ _ (new_root_evaluates g.D.SupportedDigest.digest (g.L.LogData.digest_at c.args.hashes.now) _ _)
    c.in_err-new_root.ensures p.2 p.1

pub returns-in_err-new_root-clause-memory : goal.returns-in_err-new_root-clause-memory
returns-in_err-new_root-clause-memory g c =
    (fault g (goal.at.returns-in_err-new_root-clause-memory g c).After-from_residual).memory

pub returns-in_err-new_root-clause-within : goal.returns-in_err-new_root-clause-within
returns-in_err-new_root-clause-within g c =
    (fault g (goal.at.returns-in_err-new_root-clause-within g c).After-from_residual).within
