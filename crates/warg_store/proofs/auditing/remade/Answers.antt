use Rattle.std.proofs.Common.{inl, List, ℕ, ◌∷◌, None, sym, ap, ◌∙◌}
use Rattle.std.proofs.lemmas.List.{length-map}
use Rattle.warg_crypto.specs.Digests.{sha256}
use Rattle.warg_log.specs.Tree.{leaves_of}
use Rattle.warg_tiles.specs.CheckpointText.{Said}
use Rattle.warg_folder.specs.Files.{Files}
use Rattle.warg_folder.specs.Moments.{LeavesOnly}
use Rattle.warg_folder.proofs.ForCallers.{leaves_weaker}
use Rattle.warg_store.specs.Log.{LogOf, HasState, said_of}
use Rattle.warg_store.specs.Rebuilt.{HasBundlesOf}
use Rattle.warg_store.specs.Private.Used.{IsEnough, IsRemaking}
use Rattle.warg_store.specs.declared.auditing.Use.TheVariants.{Stage}
use Rattle.warg_store.proofs.OpenLemmas.{kept_said}
use Rattle.warg_store.proofs.RebuiltLemmas.{rebuilt, state_says, remaking}
use Rattle.warg_store.proofs.UsedRuns.{not_compared}
use Rattle.warg_store.proofs.WholeLemmas.{err_same, same_said}
use Rattle.warg_store.proofs.auditing.remade.Goals.{After-commit_state}
use Rattle.warg_store.proofs.auditing.remade.Goals as goal

-- a log of the state whose bundles are there is enough to make its tiles again
enough_of : (log : LogOf) (files : Files) → HasState log files → HasBundlesOf log files → IsEnough Stage log files
enough_of log files has bundles = record {
  most = has.can.most;
  short = has.can.short;
  bundle = bundles;
  whole = λ e. absurd (not_compared e);
}

pub returns-clause-said : goal.returns-clause-said
returns-clause-said g c = c.in_ok-found.ensures.said
    ∙ same_said _ c.args.state.now c.checkpoint-checkpoint.ensures.root c.checkpoint-checkpoint.ensures.length

pub returns-clause-made : goal.returns-clause-made
returns-clause-made g c = λ faithful.
    let has = c.in_ok-log.ensures.files faithful in
    rw (c.in_ok-commit_state.ensures.committed faithful)
    (rebuilt _ _ c.in_ok-log.log c.args.state.now (c.requires.empty faithful) (c.requires.stated faithful) has
    (state_says _ _ c.args.state.now has.entries _ c.in_ok-found.ensures.said c.checkpoint-checkpoint.ensures.root
    c.checkpoint-checkpoint.ensures.length c.in_ok-found.ensures.same has.stands))

pub returns-in_err-log-clause-whole : goal.returns-in_err-log-clause-whole
returns-in_err-log-clause-whole g c = λ faithful log has bundles.
    let said = c.requires.stated faithful (said_of log) None (kept_said log has.can) has.text in
    err_same _ _ _ c.from_residual.ensures.1
    (c.in_err-log.ensures.whole faithful log (enough_of log _ has bundles)
    (sym (c.length.ensures ∙ c.checkpoint-checkpoint.ensures.length ∙ ap (λ (s : Said). s.length) said)))

pub returns-in_err-found-clause-whole : goal.returns-in_err-found-clause-whole
returns-in_err-found-clause-whole g c = λ faithful log has bundles.
    let said = c.requires.stated faithful (said_of log) None (kept_said log has.can) has.text in
    let length = c.checkpoint-checkpoint.ensures.length ∙ ap (λ (s : Said). s.length) said in
    err_same _ _ _ c.from_residual-in_err-found.ensures.1
    (c.in_err-found.ensures.whole (leaves_of sha256 log.entries)
    (c.in_ok-log.ensures.own faithful log (enough_of log _ has bundles)
    (sym (c.length.ensures ∙ length)))
    (length ∙ sym (length-map log.entries (λ (e : List ℕ). sha256 (0 ∷ e))))
    (c.checkpoint-checkpoint.ensures.root ∙ ap (λ (s : Said). s.root) said))

pub returns-in_err-commit_state-clause-whole : goal.returns-in_err-commit_state-clause-whole
returns-in_err-commit_state-clause-whole g c = λ faithful log has bundles.
    let said = c.requires.stated faithful (said_of log) None (kept_said log has.can) has.text in
    err_same _ _ _ c.from_residual-in_err-commit_state.ensures.1
    (c.in_err-commit_state.ensures.whole (rw said (kept_said log has.can)))

pub returns-in_err-log-clause-any_moment : goal.returns-in_err-log-clause-any_moment
returns-in_err-log-clause-any_moment g c = λ faithful.
    leaves_weaker _ _ _ _ _ _ (c.replayed.ensures.used faithful).run (λ f was. inl was)

pub returns-in_err-found-clause-any_moment : goal.returns-in_err-found-clause-any_moment
returns-in_err-found-clause-any_moment g c = λ faithful.
    leaves_weaker _ _ _ _ _ _ (c.replayed.ensures.used faithful).run (λ f was. inl was)

-- the commit of the state leaves what making the tiles again may leave
committed : (g : _) (c : After-commit_state g) → g.F.Folder.IsFaithful → LeavesOnly g.F.Folder.moment
    g.F.Folder.left_since c.args.folder.now c.commit_state.new.folder
    (IsRemaking c.args.state.now (g.F.Folder.seen c.args.folder.now))
committed g c faithful =
    let has = c.in_ok-log.ensures.files faithful in
    remaking _ _ _ _ _ _ _ c.in_ok-log.log c.args.state.now
    (c.requires.empty faithful) (c.requires.stated faithful) has
    (state_says _ _ c.args.state.now has.entries _ c.in_ok-found.ensures.said c.checkpoint-checkpoint.ensures.root
    c.checkpoint-checkpoint.ensures.length c.in_ok-found.ensures.same has.stands) (c.replayed.ensures.used faithful)
    (g.met.F.Folder.seen_may_stay c.replayed.new.folder) (c.commit_state.ensures.any_moment faithful)

pub returns-in_err-commit_state-clause-any_moment : goal.returns-in_err-commit_state-clause-any_moment
returns-in_err-commit_state-clause-any_moment g c =
    committed g (goal.at.returns-in_err-commit_state-clause-any_moment g c).After-commit_state

pub returns-clause-any_moment : goal.returns-clause-any_moment
returns-clause-any_moment g c = committed g (goal.at.returns-clause-any_moment g c).After-commit_state
