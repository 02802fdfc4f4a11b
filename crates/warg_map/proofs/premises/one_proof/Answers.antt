use Rattle.std.proofs.Common.{true, []}
use Rattle.warg_map.proofs.PremiseLemmas.{own, one_bit, lone, lone_proof}
use Rattle.warg_map.proofs.premises.one_proof.Goals as goal

pub returns : goal.returns
returns c = λ law. cc (law own (lone []) one_bit [] _
    (lone_proof own true [] []))
