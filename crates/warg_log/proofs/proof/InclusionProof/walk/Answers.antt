use Rattle.std.proofs.lemmas.List.{length-map}
use Rattle.warg_log.proofs.StepLemmas.{needed_once, walk_most}
use Rattle.warg_log.proofs.proof.InclusionProof.walk.Goals as goal

pub returns-in-Ok-clause-once : goal.returns-in-Ok-clause-once
returns-in-Ok-clause-once g c = rw c.in-Ok.ensures.needed
    (needed_once _ _ (c.exists_at_length.ensures.0 c.if-not-exists_at_length.false))

pub returns-in-Ok-clause-most : goal.returns-in-Ok-clause-most
returns-in-Ok-clause-most g c = rw (← c.self.view_is)
    (λ b lt. rw length-map at (walk_most _ _ b _ _ _ _ c.in-Ok.ensures.order lt))
