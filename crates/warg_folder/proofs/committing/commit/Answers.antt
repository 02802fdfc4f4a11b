use Rattle.std.proofs.Common.{◌≡◌}
use Rattle.warg_folder.specs.Files.{put}
use Rattle.warg_folder.specs.Moments.{LeavesOnly}
use Rattle.warg_folder.specs.Names.{mark}
use Rattle.warg_folder.specs.Commits.{committed, IsBetween}
use Rattle.warg_folder.proofs.ForCallers.{goes_on, leaves_then, either}
use Rattle.warg_folder.proofs.RunLemmas.{begins_reading}
use Rattle.warg_folder.proofs.StepLemmas.{between_self, staging_between, marked_between, from_unmarked}
use Rattle.warg_folder.proofs.committing.commit.Goals.{After-replace}
use Rattle.warg_folder.proofs.committing.commit.Goals as goal

-- the run up to the mark
marked : (g : _) (c : After-replace g) → g.F.Folder.IsFaithful → let first = g.F.Folder.seen c.args.folder.now in
    LeavesOnly g.F.Folder.moment g.F.Folder.left_since c.args.folder.now c.replace.new.self
    (IsBetween first (committed c.args.text.now first))
marked g c faithful =
    let first = g.F.Folder.seen c.args.folder.now in
    let next = committed c.args.text.now first in
    goes_on _ _ _ _ _ _ _
    (begins_reading (g.met.F.Folder.only_now c.args.folder.now) (c.sync.ensures.time faithful)
    (c.sync.ensures.crash faithful)
    (staging_between first next _ (g.met.F.Folder.seen_may_stay c.args.folder.now) (c.requires.staging faithful)))
    (c.replace.ensures.time faithful)
    (λ e left.
    let from = c.replace.ensures.crash faithful e left in
    let was : from.0 ≡ first = c.in_ok-sync.ensures.durable faithful from.0 from.1 in
    either (IsBetween first next) (put (mark, c.args.text.now)) from.0 e from.2
    (rw was (between_self first next)) (rw was (marked_between first c.args.text.now)))

pub returns-in_err-sync-clause-any_moment : goal.returns-in_err-sync-clause-any_moment
returns-in_err-sync-clause-any_moment g c = λ faithful.
    begins_reading (g.met.F.Folder.only_now c.args.folder.now) (c.sync.ensures.time faithful)
    (c.sync.ensures.crash faithful)
    (staging_between _ _ _ (g.met.F.Folder.seen_may_stay c.args.folder.now) (c.requires.staging faithful))

pub returns-in_err-replace-clause-any_moment : goal.returns-in_err-replace-clause-any_moment
returns-in_err-replace-clause-any_moment g c =
    marked g (goal.at.returns-in_err-replace-clause-any_moment g c).After-replace

pub returns-clause-any_moment : goal.returns-clause-any_moment
returns-clause-any_moment g c = λ faithful.
    leaves_then _ _ _ _ _ _ _ _ (marked g (goal.at.returns-clause-any_moment g c).After-replace faithful)
    (c.finish.ensures.any_moment faithful) (λ e was. was)
    (λ e was. from_unmarked (g.F.Folder.seen c.args.folder.now) e c.args.text.now
    (rw (c.in_ok-replace.ensures.replaced faithful, c.sync.ensures.seen faithful) at was))
