use Rattle.std.proofs.Common.{inl, inr, ⊎_elim}
use Rattle.std.proofs.lemmas.Result.{IfOk-weaker}
use Rattle.warg_uses.proofs.store.served_release.Goals as goal

pub returns-clause-meanwhile : goal.returns-clause-meanwhile
returns-clause-meanwhile g c = λ faithful. IfOk-weaker c.entry.result _ _
    (λ release own served old next one. ⊎_elim (λ reads. inl (own served reads)) (λ reads. inr (own next reads))
    (c.in_ok-reader.ensures.meanwhile faithful served old next one))
    (c.entry.ensures.own faithful)
