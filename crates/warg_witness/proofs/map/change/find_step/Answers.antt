use Rattle.std.proofs.lemmas.Result.{IfOk-weaker}
use Rattle.warg_witness.proofs.AgreementLemmas.{finds_as}
use Rattle.warg_witness.proofs.map.change.find_step.Goals as goal

pub returns-in-Target : goal.returns-in-Target
returns-in-Target g c =
    let there = rw c.in-Some.is at c.in_ok-apart.ensures in
    rw c.in-Target.is (IfOk-weaker c.find_apart.result _ _
    (finds_as _ _ (λ _. tt) (λ _. tt) (λ no. absurd no) (λ all. there.1 (all _)) (λ _ _ _ is. is))
    c.find_apart.ensures)
