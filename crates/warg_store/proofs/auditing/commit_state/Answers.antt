use Rattle.warg_folder.proofs.ForCallers.{leaves_none}
use Rattle.warg_store.proofs.RebuiltLemmas.{staging_between}
use Rattle.warg_store.proofs.auditing.commit_state.Goals as goal

pub returns-in_err-text-clause-any_moment : goal.returns-in_err-text-clause-any_moment
returns-in_err-text-clause-any_moment g c = λ faithful.
    leaves_none _ _ _ _ (λ f left. staging_between _ _ _ (c.requires faithful)
    (g.met.F.Folder.seen_may_stay c.args.folder.now) f (g.met.F.Folder.only_now c.args.folder.now f left))

pub returns-then-len-gt-MOST_TEXT-clause-any_moment : goal.returns-then-len-gt-MOST_TEXT-clause-any_moment
returns-then-len-gt-MOST_TEXT-clause-any_moment g c = λ faithful.
    leaves_none _ _ _ _ (λ f left. staging_between _ _ _ (c.requires faithful)
    (g.met.F.Folder.seen_may_stay c.args.folder.now) f (g.met.F.Folder.only_now c.args.folder.now f left))

pub returns-in_err-commit-clause-any_moment : goal.returns-in_err-commit-clause-any_moment
returns-in_err-commit-clause-any_moment g c = λ faithful.
    rw (c.as_slice.ensures.value, c.in_ok-text.ensures) at (c.commit.ensures.any_moment faithful)

pub returns-clause-any_moment : goal.returns-clause-any_moment
returns-clause-any_moment g c = λ faithful.
    rw (c.as_slice.ensures.value, c.in_ok-text.ensures) at (c.commit.ensures.any_moment faithful)
