use Rattle.warg_store.proofs.OptionLemmas.{one_value, no_value}
use Rattle.warg_store.proofs.OpenLemmas.{kept_said}
use Rattle.warg_store.proofs.WholeLemmas.{err_same}
use Rattle.warg_store.proofs.opening.read_served.Goals as goal

pub returns-in-Some-clause-text : goal.returns-in-Some-clause-text
returns-in-Some-clause-text g c = λ faithful log serves.
    one_value c.in-Some.is (c.in_ok-text.ensures.text faithful _ serves.checkpoint.0
    (kept_said log serves.can) serves.checkpoint.1)

pub returns-in-Some-clause-said : goal.returns-in-Some-clause-said
returns-in-Some-clause-said g c = λ faithful said behind can there.
    one_value c.in-Some.is (c.in_ok-text.ensures.text faithful said behind can there)

pub returns-in_err-text-clause-whole : goal.returns-in_err-text-clause-whole
returns-in_err-text-clause-whole g c = λ faithful log serves.
    err_same _ _ _ c.from_residual.ensures.1
    (c.in_err-text.ensures.whole faithful _ serves.checkpoint.0 (kept_said log serves.can) serves.checkpoint.1)

pub returns-in-None-clause-whole : goal.returns-in-None-clause-whole
returns-in-None-clause-whole g c = λ faithful log serves.
    absurd (no_value c.in-None.is (c.in_ok-text.ensures.text faithful _ serves.checkpoint.0
    (kept_said log serves.can) serves.checkpoint.1))
