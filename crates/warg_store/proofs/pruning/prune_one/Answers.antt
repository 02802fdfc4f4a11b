use Rattle.warg_store.specs.Private.Steps.{PrunesOn}
use Rattle.warg_store.proofs.PruneLemmas.{prunes_gone}
use Rattle.warg_store.proofs.pruning.prune_one.Goals.{After-remove}
use Rattle.warg_store.proofs.pruning.prune_one.Goals as goal

-- a file that is spare goes, whether the removal fails or not
removed : (g : _) (c : After-remove g) → g.F.Folder.IsFaithful → PrunesOn g.F.Folder.moment g.F.Folder.left_since
    g.F.Folder.may_leave c.args.kept c.args.served c.args.folder.now c.remove.new.self
removed g c faithful = prunes_gone _ _ _ g.met.F.Folder.only_now _ _ _ _ _ _ c.args.name.now
    (g.met.F.Folder.seen_may_stay c.args.folder.now) (c.is_spare_file.ensures.read faithful)
    ((c.in_ok-is_spare.ensures.spare faithful).0 c.if-is_spare.true) (c.remove.ensures.crash faithful)
    (c.remove.ensures.time faithful)

pub returns-in_err-remove-clause-run : goal.returns-in_err-remove-clause-run
returns-in_err-remove-clause-run g c = removed g (goal.at.returns-in_err-remove-clause-run g c).After-remove

pub returns-in_ok-remove-clause-run : goal.returns-in_ok-remove-clause-run
returns-in_ok-remove-clause-run g c = removed g (goal.at.returns-in_ok-remove-clause-run g c).After-remove
