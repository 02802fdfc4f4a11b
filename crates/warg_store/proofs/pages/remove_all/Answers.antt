use Rattle.warg_folder.proofs.ForCallers.{goes_on}
use Rattle.warg_store.proofs.AuditLemmas.{ok_holds}
use Rattle.warg_store.proofs.pages.remove_all.Goals as goal

pub returns-clause-any_moment : goal.returns-clause-any_moment
returns-clause-any_moment g c = λ faithful. goes_on _ _ _ _ _ _ _
    (c.remove_each.ensures.any_moment faithful) (c.sync.ensures.time faithful)
    (λ e left. c.remove_each.ensures.crash faithful e (c.sync.ensures.crash faithful e left))

pub returns-clause-removed : goal.returns-clause-removed
returns-clause-removed g c = λ faithful. ok_holds c.sync.result _
    (rw (c.sync.ensures.seen faithful) (c.in_ok-remove_each.ensures.removed faithful))
