use Rattle.std.proofs.lemmas.Result.{IfOk-weaker}
use Rattle.warg_witness.proofs.AgreementLemmas.{finds_shown}
use Rattle.warg_witness.proofs.ShownLemmas.{value_shown, value_held, value_from}
use Rattle.warg_witness.proofs.log.witness_value.Goals as goal

pub returns-clause-found : goal.returns-clause-found
returns-clause-found g c =
    let meeting = rw (c.in-Some.is, c.hash_leaf-hash.ensures) at c.in_ok-met.ensures.met in
    let here = meeting.0.target_is in
    IfOk-weaker c.find_value.result _ _ (finds_shown meeting.1.met (value_held here) (value_from here)
    (value_shown here meeting.1)) c.find_value.ensures

pub find_value-requires-clause-collides : goal.find_value-requires-clause-collides
find_value-requires-clause-collides g c other =
    let met = rw (c.in-Some.is, c.hash_leaf-hash.ensures) at c.in_ok-met.ensures.met in
    (value_shown met.0.target_is met.1 other).collides
