use Rattle.std.proofs.Common.{refl, rules}
use Rattle.warg_log.proofs.FaultLemmas.{not_refused}
use Rattle.warg_log.proofs.ImageLemmas.{roots_fit, roots_too_large, stack_again}
use Rattle.warg_log.proofs.stack_log.StackLog.to_message.Goals as goal

pub returns-then-self-gt-GREATEST_IMAGE-clause-too_large : goal.returns-then-self-gt-GREATEST_IMAGE-clause-too_large
returns-then-self-gt-GREATEST_IMAGE-clause-too_large g c = rw (← c.self.view_is)
    (λ _. roots_too_large c.self.inside.count c.if-self-gt-GREATEST_IMAGE.true, λ _. refl)

pub returns-in_err-stack-clause-too_large : goal.returns-in_err-stack-clause-too_large
returns-in_err-stack-clause-too_large g c =
    let fits = roots_fit c.self.inside.count c.if-self-gt-GREATEST_IMAGE.false in
    rw (← c.self.view_is) (search (rules, fits))

pub returns-clause-fits : goal.returns-clause-fits
returns-clause-fits g c = rw (← c.self.view_is) (roots_fit c.self.inside.count c.if-self-gt-GREATEST_IMAGE.false)

pub returns-clause-too_large : goal.returns-clause-too_large
returns-clause-too_large g c = (λ bad. absurd (not_refused _ _ bad), λ unfit. absurd (unfit (returns-clause-fits g c)))

pub returns-clause-again : goal.returns-clause-again
returns-clause-again g c = rw (← c.self.view_is, rw c.as_slice.ensures.value at c.in_ok-stack.ensures.entries)
    (stack_again c.self.inside.count c.self.inside.blocks.items c.self.invariant.0
    (rw c.as_slice.ensures.value at c.in_ok-stack.ensures.lengths))
