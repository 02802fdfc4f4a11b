use Rattle.warg_folder.proofs.ForCallers.{read_twice}
use Rattle.warg_folder.proofs.RunLemmas.{begins_reading}
use Rattle.warg_folder.proofs.recovery.settled_mark.Goals as goal

pub returns-in_err-sync-clause-any_moment : goal.returns-in_err-sync-clause-any_moment
returns-in_err-sync-clause-any_moment g c = λ faithful.
    begins_reading (g.met.F.Folder.only_now c.args.folder.now) (c.sync.ensures.time faithful)
    (c.sync.ensures.crash faithful) (λ e was. was)

pub returns-clause-any_moment : goal.returns-clause-any_moment
returns-clause-any_moment g c = λ faithful.
    (read_twice _ _ _ _ _ _ _ (g.met.F.Folder.only_now c.args.folder.now) (c.sync.ensures.time faithful)
    (c.read.ensures.time faithful) (c.sync.ensures.crash faithful) (c.read.ensures.crash faithful) (λ e was. was)).0

pub returns-clause-found : goal.returns-clause-found
returns-clause-found g c = λ faithful. rw (← c.sync.ensures.seen faithful) (c.read.ensures.found faithful)
