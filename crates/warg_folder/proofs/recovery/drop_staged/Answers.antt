use Rattle.std.proofs.Common.{sym, ◌∙◌}
use Rattle.warg_folder.proofs.ForCallers.{leaves_weaker, idle_opened}
use Rattle.warg_folder.proofs.StepLemmas.{idle_removing, idle_between}
use Rattle.warg_folder.proofs.recovery.drop_staged.Goals as goal

pub remove_staged-requires : goal.remove_staged-requires
remove_staged-requires g c = λ faithful e left.
    rw (c.requires.durable faithful e left) (idle_removing _ (c.requires.idle faithful))

pub returns-clause-opened : goal.returns-clause-opened
returns-clause-opened g c = λ faithful.
    c.in_ok-remove_staged.ensures.removed faithful
    ∙ sym (idle_opened (g.F.Folder.seen c.args.folder.now) (c.requires.idle faithful))

pub returns-clause-any_moment : goal.returns-clause-any_moment
returns-clause-any_moment g c = λ faithful.
    leaves_weaker _ _ _ _ _ _ (c.remove_staged.ensures.any_moment faithful)
    (λ e was. idle_between _ _ e (c.requires.idle faithful) was)

pub returns-in_err-remove_staged-clause-any_moment : goal.returns-in_err-remove_staged-clause-any_moment
returns-in_err-remove_staged-clause-any_moment g c = λ faithful.
    leaves_weaker _ _ _ _ _ _ (c.remove_staged.ensures.any_moment faithful)
    (λ e was. idle_between _ _ e (c.requires.idle faithful) was)
