use Rattle.std.proofs.lemmas.Result.{IfOk-weaker}
use Rattle.warg_witness.proofs.AgreementLemmas.{hash_found}
use Rattle.warg_witness.proofs.log.witness_hash.Goals as goal

pub returns-clause-found : goal.returns-clause-found
returns-clause-found g c = let met = rw c.in-Some.is at c.in_ok-met.ensures.met in
    IfOk-weaker c.find_hash.result _ _ (hash_found c.in-Some.met.divergence met.0 met.1) c.find_hash.ensures
