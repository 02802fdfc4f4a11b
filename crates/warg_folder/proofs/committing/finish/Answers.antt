use Rattle.std.proofs.Common.{◌≡◌, sym, ◌∙◌}
use Rattle.std.proofs.lemmas.Result.{on_ok_weaker}
use Rattle.warg_folder.specs.Commits.{opened, IsBetween}
use Rattle.warg_folder.specs.Moments.{LeavesOnly}
use Rattle.warg_folder.proofs.ForCallers.{leaves_weaker, leaves_then}
use Rattle.warg_folder.proofs.StepLemmas.{moving_between, put_done, put_between, removing_between, IsDone, done_removing, done_opened}
use Rattle.warg_folder.proofs.committing.finish.Goals.{After-put_text, In_ok-put_text}
use Rattle.warg_folder.proofs.committing.finish.Goals as goal

-- the run up to the put of the text
text_put : (g : _) (c : After-put_text g) → g.F.Folder.IsFaithful → let first = g.F.Folder.seen c.args.folder.now in
    LeavesOnly g.F.Folder.moment g.F.Folder.left_since c.args.folder.now c.put_text.new.folder
    (IsBetween first (opened first))
text_put g c faithful =
    let first = g.F.Folder.seen c.args.folder.now in
    leaves_then _ _ _ _ _ _ _ _ (c.move_staged.ensures.any_moment faithful) (c.put_text.ensures.any_moment faithful)
    (λ e was. moving_between first e c.args.text.now (c.requires.stands faithful) was)
    (λ e was. put_between first (g.F.Folder.seen c.move_staged.new.folder) e c.args.text.now
    (c.requires.stands faithful) (c.move_staged.ensures.moving faithful)
    (c.in_ok-move_staged.ensures.moved faithful) was)

-- the commit is then done
done : (g : _) (c : In_ok-put_text g) → g.F.Folder.IsFaithful → let now = g.F.Folder.seen c.put_text.new.folder in
    IsDone c.args.text.now now × (opened now ≡ opened (g.F.Folder.seen c.args.folder.now))
done g c faithful = rw (c.in_ok-put_text.ensures.put faithful)
    (put_done (g.F.Folder.seen c.args.folder.now) (g.F.Folder.seen c.move_staged.new.folder) c.args.text.now
    (c.requires.stands faithful) (c.move_staged.ensures.moving faithful) (c.in_ok-move_staged.ensures.moved faithful))

pub returns-in_err-move_staged-clause-any_moment : goal.returns-in_err-move_staged-clause-any_moment
returns-in_err-move_staged-clause-any_moment g c = λ faithful.
    leaves_weaker _ _ _ _ _ _ (c.move_staged.ensures.any_moment faithful)
    (λ e was. moving_between (g.F.Folder.seen c.args.folder.now) e c.args.text.now (c.requires.stands faithful) was)

pub returns-in_err-put_text-clause-any_moment : goal.returns-in_err-put_text-clause-any_moment
returns-in_err-put_text-clause-any_moment g c =
    text_put g (goal.at.returns-in_err-put_text-clause-any_moment g c).After-put_text

pub remove_staged-requires : goal.remove_staged-requires
remove_staged-requires g c = λ faithful e left.
    rw (c.in_ok-put_text.ensures.durable faithful e left)
    (done_removing _ c.args.text.now (done g (goal.at.remove_staged-requires g c).In_ok-put_text faithful).0)

pub returns-clause-any_moment : goal.returns-clause-any_moment
returns-clause-any_moment g c = λ faithful.
    let at = goal.at.returns-clause-any_moment g c in
    let done = done g at.In_ok-put_text faithful in
    leaves_then _ _ _ _ _ _ _ _ (text_put g at.After-put_text faithful)
    (c.remove_staged.ensures.any_moment faithful) (λ e was. was)
    (λ e was. removing_between _ (g.F.Folder.seen c.put_text.new.folder) e c.args.text.now done.0 done.1 was)

pub returns-clause-opened : goal.returns-clause-opened
returns-clause-opened g c = λ faithful.
    let done = done g (goal.at.returns-clause-opened g c).In_ok-put_text faithful in
    on_ok_weaker c.remove_staged.result (λ is. is ∙ sym (done_opened _ c.args.text.now done.0) ∙ done.1)
    (c.remove_staged.ensures.removed faithful)
