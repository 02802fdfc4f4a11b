use Rattle.std.proofs.lemmas.Result.{IfOk-weaker}
use Rattle.warg_store.proofs.GrowingLemmas.{kept_once_opened}
use Rattle.warg_store.proofs.log_folder.LogFolder.discard.Goals as goal

pub returns-clause-discarded : goal.returns-clause-discarded
returns-clause-discarded g c = λ faithful. IfOk-weaker c.open.result _ _
    (λ log is served old next has. is served old (kept_once_opened g.F.Folder.seen g.F.Folder.may_leave
    g.met.F.Folder.seen_may_stay served old next c.args.self c.into_folder.result c.into_folder.ensures has))
    (c.open.ensures.has faithful)

pub returns-clause-whole : goal.returns-clause-whole
returns-clause-whole g c = λ faithful served old next has. c.open.ensures.opens faithful served old
    (kept_once_opened g.F.Folder.seen g.F.Folder.may_leave g.met.F.Folder.seen_may_stay served old next c.args.self
    c.into_folder.result c.into_folder.ensures has)
