use Rattle.std.proofs.Common.{◌⊎◌, inl, inr, ⊎_elim, Err, None, ap, ◌∙◌, arith}
use Rattle.warg_folder.specs.Moments.{LeavesOnly}
use Rattle.warg_folder.specs.Commits.{NothingStaged, opened}
use Rattle.warg_folder.proofs.ForCallers.{leaves_then, leaves_weaker, then_reads, read_leaves}
use Rattle.warg_store.specs.Log.{HasState, said_of}
use Rattle.warg_store.specs.Rebuilt.{IsRebuilding}
use Rattle.warg_store.proofs.AuditLemmas.{ok_both}
use Rattle.warg_store.proofs.OpenLemmas.{kept_said}
use Rattle.warg_store.proofs.ReadyRuns.{staging_kept}
use Rattle.warg_store.proofs.RebuiltLemmas.{beside_settled, mark_stated, rebuilt_shown}
use Rattle.warg_store.proofs.WholeLemmas.{err_same}
use Rattle.warg_store.proofs.auditing.rebuild.Goals.{After-read_state}
use Rattle.warg_store.proofs.auditing.rebuild.Goals as goal

-- a recovery and the reading of the state leave what making the tiles again may leave
state_read : (g : _) (c : After-read_state g) → g.F.Folder.IsFaithful → LeavesOnly g.F.Folder.moment
    g.F.Folder.left_since c.args.folder.now c.read_state.new.folder
    (λ f. g.F.Folder.may_leave c.args.folder.now f ⊎ IsRebuilding (g.F.Folder.seen c.args.folder.now) f)
state_read g c faithful = then_reads _ _ _ g.met.F.Folder.counts_now _ _ _ _
    (leaves_weaker _ _ _ _ _ _ (c.recover.ensures.any_moment faithful)
    (λ f. ⊎_elim (λ was. inl was) (λ between. inr (inl between))))
    (read_leaves g.F.Folder.seen g.F.Folder.may_leave _ _ _ _ (g.F.Folder.may_leave c.recover.new.folder)
    (g.met.F.Folder.only_now c.recover.new.folder) (λ f left. left) (c.read_state.ensures.read faithful))

pub remade-requires-clause-staging : goal.remade-requires-clause-staging
remade-requires-clause-staging g c = λ faithful.
    staging_kept _ _ _ _ (c.read_state.ensures.read faithful).found (c.read_state.ensures.read faithful).crash
    (c.in_default.ensures.ready faithful)

pub remade-requires-clause-empty : goal.remade-requires-clause-empty
remade-requires-clause-empty g c = λ faithful.
    rw (c.read_state.ensures.read faithful).found (c.in_default.ensures.empty faithful)

pub remade-requires-clause-stated : goal.remade-requires-clause-stated
remade-requires-clause-stated g c = λ faithful.
    rw (c.read_state.ensures.read faithful).found (c.in_ok-state.ensures.stated faithful)

pub returns-clause-made : goal.returns-clause-made
returns-clause-made g c = λ faithful.
    let old = (c.read_state.ensures.read faithful).found ∙ c.in_default.ensures.opened faithful in
    ok_both c.remade.result _ _ _ (c.remade.ensures.made faithful) c.remade.ensures.said
    (λ found is said. (c.in_ok-state.state, said, rw old at is))

pub returns-clause-rebuilt : goal.returns-clause-rebuilt
returns-clause-rebuilt g c = λ faithful.
    ok_both c.remade.result _ _ _ (c.remade.ensures.made faithful) c.remade.ensures.said
    (λ found is said. rw said (rebuilt_shown _ _ _ is))

pub returns-in-Err-clause-whole : goal.returns-in-Err-clause-whole
returns-in-Err-clause-whole g c = λ faithful log has bundles.
    c.of_recovery.ensures.whole (λ long. let stands = c.in-Err.ensures.too_long faithful (ap (λ e. Err e) long) in
    omega (arith, mark_stated log (g.F.Folder.seen c.args.folder.now) stands.0 stands.1 has, stands.2))

pub returns-in_err-state-clause-whole : goal.returns-in_err-state-clause-whole
returns-in_err-state-clause-whole g c = λ faithful log has bundles.
    let here : HasState log (g.F.Folder.seen c.recover.new.folder) = rw (c.in_default.ensures.opened faithful) has in
    err_same _ _ _ c.from_residual.ensures.1
    (c.in_err-state.ensures.whole faithful (said_of log) None (kept_said log here.can) here.text)

pub returns-clause-whole : goal.returns-clause-whole
returns-clause-whole g c = λ faithful log has bundles.
    let old = (c.read_state.ensures.read faithful).found ∙ c.in_default.ensures.opened faithful in
    c.remade.ensures.whole faithful log (rw old has) (rw old bundles)

pub returns-in-Err-clause-any_moment : goal.returns-in-Err-clause-any_moment
returns-in-Err-clause-any_moment g c = λ faithful.
    leaves_weaker _ _ _ _ _ _ (c.recover.ensures.any_moment faithful)
    (λ f. ⊎_elim (λ was. inl was) (λ between. inr (inl between)))

pub returns-in_err-state-clause-any_moment : goal.returns-in_err-state-clause-any_moment
returns-in_err-state-clause-any_moment g c =
    state_read g (goal.at.returns-in_err-state-clause-any_moment g c).After-read_state

pub returns-clause-any_moment : goal.returns-clause-any_moment
returns-clause-any_moment g c = λ faithful.
    let first = g.F.Folder.seen c.args.folder.now in
    let settled = c.in_default.ensures.opened faithful in
    let nothing : NothingStaged (opened first) = rw settled at (c.in_default.ensures.empty faithful) in
    leaves_then _ _ _ _ _ _ _ _ (state_read g (goal.at.returns-clause-any_moment g c).After-read_state faithful)
    (rw ((c.read_state.ensures.read faithful).found ∙ settled) at (c.remade.ensures.any_moment faithful))
    (λ f was. was)
    (λ f. ⊎_elim (λ beside. inr (inl (beside_settled first (opened first) f nothing beside)))
    (λ made. inr (inr (c.in_ok-state.state, made.0, made.1, made.2))))
