use Rattle.std.proofs.Common.{refl}
use Rattle.std.proofs.lemmas.Result.{on_ok_weaker}
use Rattle.warg_folder.specs.Moments.{LeavesOnly}
use Rattle.warg_folder.specs.Names.{staged}
use Rattle.warg_folder.specs.Private.Steps.{IsMoving}
use Rattle.warg_folder.proofs.StepLemmas.{moved_gone, unmoved}
use Rattle.warg_folder.proofs.RunLemmas.{begins_reading, runs_on}
use Rattle.warg_folder.proofs.committing.move_staged.Goals.{After-move_all}
use Rattle.warg_folder.proofs.committing.move_staged.Goals as goal

-- the run up to the moves
moving : (g : _) (c : After-move_all g) → g.F.Folder.IsFaithful → LeavesOnly g.F.Folder.moment g.F.Folder.left_since
    c.args.folder.now c.move_all.new.folder (IsMoving (g.F.Folder.seen c.args.folder.now))
moving g c faithful = runs_on
    (begins_reading (g.met.F.Folder.only_now c.args.folder.now) (c.list.ensures.time faithful)
    (c.list.ensures.crash faithful) (λ f was. unmoved _ f (c.requires faithful f was)))
    (rw (c.list.ensures.seen faithful) at (c.move_all.ensures.any_moment faithful))

-- what is seen after them
moved : (g : _) (c : After-move_all g) → g.F.Folder.IsFaithful
    → IsMoving (g.F.Folder.seen c.args.folder.now) (g.F.Folder.seen c.move_all.new.folder)
moved g c faithful = rw (c.list.ensures.seen faithful) at
    (c.move_all.ensures.crash faithful _ (g.met.F.Folder.seen_may_stay c.move_all.new.folder))

pub returns-clause-moved : goal.returns-clause-moved
returns-clause-moved g c = λ faithful.
    on_ok_weaker c.sync.result
    (λ done n is. rw (c.sync.ensures.seen faithful)
    (moved_gone (g.F.Folder.seen c.args.folder.now) _ _ n is
    (moved g (goal.at.returns-clause-moved g c).After-move_all faithful)
    (c.in_ok-move_all.ensures.moved faithful n is)
    (λ some. rw c.as_slice.ensures.value (c.in_ok-names.ensures.all faithful (staged n) some refl))))
    (c.sync.ensures.durable faithful)
