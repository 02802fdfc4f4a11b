use Rattle.warg_store.proofs.AuditLemmas.{one_more}
use Rattle.warg_store.proofs.auditing.push_one.Goals as goal

pub returns-clause-pushed : goal.returns-clause-pushed
returns-clause-pushed c = one_more _ _ c.args.entry.now.items c.in_ok-push.ensures.stands
