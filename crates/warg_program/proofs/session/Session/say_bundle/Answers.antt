use Rattle.std.proofs.Common.{refl, sym}
use Rattle.warg_program.specs.Text.{answer, bytes_or_refusal}
use Rattle.warg_bundle.specs.LogBundles.{bundle_message}
use Rattle.warg_program.proofs.BundledLemmas.{fault_told}
use Rattle.warg_program.proofs.TextLemmas.{told}
use Rattle.warg_program.proofs.session.Session.say_bundle.Goals as goal

pub returns-in-Ok : goal.returns-in-Ok
unfolding answer
returns-in-Ok g c = told _ _ _ (bytes_or_refusal (bundle_message c.in-Ok.bundle)) _
    (λ s at. rw (← at.log_is, c.in-Ok.ensures) refl) (λ s. refl) (λ s full. full) c.encode.ensures

pub returns-in_ok-bundle_refusal-in-Err : goal.returns-in_ok-bundle_refusal-in-Err
unfolding answer
returns-in_ok-bundle_refusal-in-Err g c =
    let fails = fault_told c.in-Err.fault _ c.in-Err.ensures c.in_ok-bundle_refusal-in-Err.ensures.named in
    told _ _ _ c.in_ok-bundle_refusal-in-Err.field-0.now _
    (λ s at. rw (← at.log_is, fails) (sym c.in_ok-bundle_refusal-in-Err.ensures.text)) (λ s. refl)
    (λ s full. full) c.say.ensures
