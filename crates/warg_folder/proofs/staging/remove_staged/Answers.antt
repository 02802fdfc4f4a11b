use Rattle.std.proofs.Common.{ap, ◌∙◌}
use Rattle.std.proofs.lemmas.Result.{on_ok_weaker}
use Rattle.warg_folder.specs.Moments.{LeavesOnly}
use Rattle.warg_folder.specs.Commits.{without_staged}
use Rattle.warg_folder.specs.Private.Steps.{IsRemoving}
use Rattle.warg_folder.proofs.StepLemmas.{all_removed}
use Rattle.warg_folder.proofs.RunLemmas.{begins_reading, runs_on}
use Rattle.warg_folder.proofs.staging.remove_staged.Goals.{After-remove_all}
use Rattle.warg_folder.proofs.staging.remove_staged.Goals as goal

-- the run up to the removal
removing : (g : _) (c : After-remove_all g) → g.F.Folder.IsFaithful → LeavesOnly g.F.Folder.moment g.F.Folder.left_since
    c.args.folder.now c.remove_all.new.folder (IsRemoving (g.F.Folder.seen c.args.folder.now))
removing g c faithful = runs_on
    (begins_reading (g.met.F.Folder.only_now c.args.folder.now) (c.list.ensures.time faithful)
    (c.list.ensures.crash faithful) (c.requires faithful))
    (rw (c.list.ensures.seen faithful) at (c.remove_all.ensures.any_moment faithful))

pub returns-clause-removed : goal.returns-clause-removed
returns-clause-removed g c = λ faithful.
    let last = g.F.Folder.seen c.remove_all.new.folder in
    on_ok_weaker c.sync.result
    (λ done. c.sync.ensures.seen faithful
    ∙ all_removed (g.F.Folder.seen c.list.new.self) last c.as_slice.result.now
    (c.remove_all.ensures.crash faithful last (g.met.F.Folder.seen_may_stay c.remove_all.new.folder)).outside
    (c.in_ok-remove_all.ensures.removed faithful) (c.in_ok-remove_all.ensures.fewer faithful)
    (rw (c.as_slice.ensures.value, c.list.ensures.seen faithful) (c.in_ok-names.ensures.all faithful))
    ∙ ap without_staged (c.list.ensures.seen faithful))
    (c.sync.ensures.durable faithful)
