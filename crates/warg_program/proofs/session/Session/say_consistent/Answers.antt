use Rattle.std.proofs.Common.{◌∙◌, Ok, refl, sym}
use Rattle.warg_program.specs.Text.{answer, roots_or_refusal}
use Rattle.warg_program.specs.Orders.{consistent}
use Rattle.warg_program.proofs.TextLemmas.{told}
use Rattle.warg_program.proofs.session.Session.say_consistent.Goals as goal

pub returns-in-Ok : goal.returns-in-Ok
unfolding answer
returns-in-Ok g c =
    let proof = c.prove_consistency-proof.ensures in
    let leads = rw (proof.old_length, proof.new_length) at (sym c.evaluate.ensures.value ∙ c.in-Ok.is) in
    told c.args.self.now c.say_roots.new.self (consistent c.args.old c.args.new)
    (roots_or_refusal (Ok (c.in-Ok.old_root, c.in-Ok.new_root))) c.say_roots.result
    (λ s at. rw (← at.log_is, leads) refl) (λ s. refl) (λ s full. full) c.say_roots.ensures

pub returns-in_ok-refusal-in-Err : goal.returns-in_ok-refusal-in-Err
unfolding answer
returns-in_ok-refusal-in-Err g c =
    let proof = c.prove_consistency-proof.ensures in
    let fails = rw (proof.old_length, proof.new_length) at (sym c.evaluate.ensures.value ∙ c.in-Err.is) in
    told c.args.self.now c.say.new.self (consistent c.args.old c.args.new) c.in_ok-refusal-in-Err.field-0.now
    c.say.result (λ s at. rw (← at.log_is, fails) (sym c.in_ok-refusal-in-Err.ensures)) (λ s. refl)
    (λ s full. full) c.say.ensures
