use Rattle.std.proofs.Common.{◌∙◌, ◌++◌, codes, refl, sym}
use Rattle.hex.specs.Hex.{encode_lower}
use Rattle.warg_program.specs.Text.{answer}
use Rattle.warg_program.specs.Orders.{include}
use Rattle.warg_program.proofs.BundledLemmas.{claim_is}
use Rattle.warg_program.proofs.TextLemmas.{told}
use Rattle.warg_program.proofs.session.Session.say_included.Goals as goal

pub returns-in-Ok : goal.returns-in-Ok
unfolding answer
returns-in-Ok g c =
    let proof = c.prove_inclusion-proof.ensures in
    let made = rw (claim_is _ _ _ proof.leaf proof.log_length) at (sym c.evaluate_value.ensures ∙ c.in-Ok.is) in
    told c.args.self.now c.say_root.new.self (include c.args.node.0 c.args.length c.args.value.now.items)
    (codes "root " ++ encode_lower c.in-Ok.root) c.say_root.result (λ s at. rw (← at.log_is, made) refl) (λ s. refl)
    (λ s full. full) c.say_root.ensures

pub returns-in-Err-LeafTooNew : goal.returns-in-Err-LeafTooNew
unfolding answer
returns-in-Err-LeafTooNew g c =
    let proof = c.prove_inclusion-proof.ensures in
    let fails = rw (claim_is _ _ _ proof.leaf proof.log_length, c.in-Err-LeafTooNew.field-0-is) at
    (sym c.evaluate_value.ensures ∙ c.in-Err-LeafTooNew.is) in
    told c.args.self.now c.say.new.self (include c.args.node.0 c.args.length c.args.value.now.items)
    (codes "refused leaf too new") c.say.result (λ s at. rw (← at.log_is, fails) refl) (λ s. refl)
    (λ s full. full) c.say.ensures

pub returns-in-Err-HashNotKnown : goal.returns-in-Err-HashNotKnown
unfolding answer
returns-in-Err-HashNotKnown g c =
    let proof = c.prove_inclusion-proof.ensures in
    let fails = rw (claim_is _ _ _ proof.leaf proof.log_length, c.in-Err-HashNotKnown.field-0-is) at
    (sym c.evaluate_value.ensures ∙ c.in-Err-HashNotKnown.is) in
    told c.args.self.now c.say-in-Err-HashNotKnown.new.self (include c.args.node.0 c.args.length c.args.value.now.items)
    (codes "refused hash not known") c.say-in-Err-HashNotKnown.result (λ s at. rw (← at.log_is, fails) refl)
    (λ s. refl) (λ s full. full) c.say-in-Err-HashNotKnown.ensures
