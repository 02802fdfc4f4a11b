use Rattle.std.proofs.Common.{[], inl, inr}
use Rattle.warg_claims.proofs.StepPremiseLemmas.{by_number, the_steps, checked, none_collide, ends_elsewhere}
use Rattle.warg_claims.proofs.premises.checked_hashes_are_needed.Goals as goal

pub returns : goal.returns
returns c = λ law. elim (law by_number the_steps [] checked) [ inl same ↦ ends_elsewhere same | inr c ↦ none_collide c ]
