use Rattle.std.proofs.Common.{ap, ◌∙◌}
use Rattle.warg_folder.specs.Commits.{committed}
use Rattle.warg_store.proofs.CreateLemmas.{settled}
use Rattle.warg_store.proofs.opening.put_first.Goals as goal

pub commit-requires-clause-staging : goal.commit-requires-clause-staging
commit-requires-clause-staging g c = λ faithful.
    settled _ _ _ _ (c.in_ok-check_fresh.ensures.fresh faithful) (c.check_fresh.ensures.seen faithful)
    (c.sync.ensures.seen faithful) (c.in_ok-sync.ensures.durable faithful)

pub returns-clause-committed : goal.returns-clause-committed
returns-clause-committed g c = λ faithful. c.in_ok-commit.ensures.committed faithful
    ∙ ap (committed c.args.text.now) (c.sync.ensures.seen faithful ∙ c.check_fresh.ensures.seen faithful)
