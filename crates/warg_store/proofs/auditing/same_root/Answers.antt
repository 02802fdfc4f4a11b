use Rattle.warg_store.proofs.AuditLemmas.{of_entries}
use Rattle.warg_store.proofs.auditing.same_root.Goals as goal

pub returns-then-eq-clause-entries : goal.returns-then-eq-clause-entries
returns-then-eq-clause-entries c = of_entries _ _ c.checkpoint-found.ensures.root c.checkpoint-found.ensures.length
    c.requires
