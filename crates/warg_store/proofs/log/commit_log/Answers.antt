use Rattle.std.proofs.lemmas.Result.{on_ok_weaker}
use Rattle.warg_folder.proofs.ForCallers.{leaves_weaker}
use Rattle.warg_store.proofs.LeadLemmas.{next_keeps, between_committing}
use Rattle.warg_store.proofs.log.commit_log.Goals as goal

pub returns-clause-any_moment : goal.returns-clause-any_moment
returns-clause-any_moment g c = λ faithful served old next keeps extends are_staged says named.
    let first = g.F.Folder.seen c.args.folder.now in
    let idle = (c.requires.staging faithful first (g.met.F.Folder.seen_may_stay c.args.folder.now)).no_mark in
    leaves_weaker _ _ _ _ _ _ (c.commit.ensures.any_moment faithful)
    (λ e was. between_committing served old next first keeps extends are_staged c.args.text.now says named idle e
    was)

pub returns-clause-next : goal.returns-clause-next
returns-clause-next g c = λ faithful. on_ok_weaker c.commit.result
    (λ is served old next keeps extends are_staged says named.
    let first = g.F.Folder.seen c.args.folder.now in
    let found = next_keeps served old next first keeps extends are_staged c.args.text.now says named in
    (found.0, found.1, rw is found.2))
    (c.commit.ensures.committed faithful)
