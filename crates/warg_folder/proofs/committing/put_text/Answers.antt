use Rattle.std.proofs.Common.{inl, sym, ap, ◌∙◌}
use Rattle.warg_folder.specs.Files.{put}
use Rattle.warg_folder.specs.Moments.{LeavesOnly}
use Rattle.warg_folder.specs.Names.{state}
use Rattle.warg_folder.specs.Private.Steps.{IsPut}
use Rattle.warg_folder.proofs.ForCallers.{goes_on}
use Rattle.warg_folder.proofs.RunLemmas.{begins_reading}
use Rattle.warg_folder.proofs.StepLemmas.{first_put, second_put, signed_told}
use Rattle.warg_folder.proofs.committing.put_text.Goals.{After-replace}
use Rattle.warg_folder.proofs.committing.put_text.Goals as goal

-- the run up to the put of the state
state_put : (g : _) (c : After-replace g) → g.F.Folder.IsFaithful → LeavesOnly g.F.Folder.moment g.F.Folder.left_since
    c.args.folder.now c.replace.new.self (IsPut c.args.text.now (g.F.Folder.seen c.args.folder.now))
state_put g c faithful = goes_on _ _ _ _ _ _ _
    (begins_reading (g.met.F.Folder.only_now c.args.folder.now) (c.is_signed.ensures.time faithful)
    (c.is_signed.ensures.crash faithful) (λ d was. inl (c.requires faithful d was)))
    (c.replace.ensures.time faithful)
    (λ e left.
    let from = c.replace.ensures.crash faithful e left in
    first_put c.args.text.now (g.F.Folder.seen c.args.folder.now) from.0 e
    (c.requires faithful from.0 (c.is_signed.ensures.crash faithful from.0 from.1)) from.2)

pub returns-in_err-replace-clause-any_moment : goal.returns-in_err-replace-clause-any_moment
returns-in_err-replace-clause-any_moment g c =
    state_put g (goal.at.returns-in_err-replace-clause-any_moment g c).After-replace

pub returns-then-is_signed-clause-put : goal.returns-then-is_signed-clause-put
returns-then-is_signed-clause-put g c = λ faithful.
    rw (c.is_signed.ensures.seen faithful) at (c.in_ok-replace.ensures.replaced faithful)
    ∙ signed_told c.args.text.now _ (sym (c.in_ok-is_signed.ensures.signed faithful) ∙ c.if-is_signed.true)

pub returns-clause-any_moment : goal.returns-clause-any_moment
returns-clause-any_moment g c = λ faithful.
    goes_on _ _ _ _ _ _ _ (state_put g (goal.at.returns-clause-any_moment g c).After-replace faithful)
    (c.replace-2.ensures.time faithful)
    (λ e left.
    let from = c.replace-2.ensures.crash faithful e left in
    let before = c.in_ok-replace.ensures.durable faithful from.0 from.1 in
    second_put c.args.text.now (g.F.Folder.seen c.args.folder.now) from.0 e
    (sym (c.in_ok-is_signed.ensures.signed faithful) ∙ c.if-is_signed.false)
    (before.2 ∙ ap (put (state, c.args.text.now))
    (c.requires faithful before.0 (c.is_signed.ensures.crash faithful before.0 before.1))) from.2)
