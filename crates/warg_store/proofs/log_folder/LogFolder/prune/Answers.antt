use Rattle.std.proofs.Common.{◌≡◌, length, ap, ◌∙◌}
use Rattle.std.proofs.lemmas.Result.{on_ok_weaker}
use Rattle.warg_tiles.specs.CheckpointText.{Said}
use Rattle.warg_folder.specs.Moments.{LeavesOnly}
use Rattle.warg_store.specs.Log.{LogOf}
use Rattle.warg_store.specs.Growing.{Has}
use Rattle.warg_store.specs.Private.Steps.{IsPruning}
use Rattle.warg_folder.proofs.ForCallers.{in_end, leaves_weaker}
use Rattle.warg_store.proofs.PruneLemmas.{pruned_moment, served_pruned, prune_has}
use Rattle.warg_store.proofs.log_folder.LogFolder.prune.Goals.{After-prune_all}
use Rattle.warg_store.proofs.log_folder.LogFolder.prune.Goals as goal

-- each moment of the run leaves a folder that is being pruned
pruning : (g : _) (c : After-prune_all g) → g.F.Folder.IsFaithful → (served old next : LogOf)
    → Has g.F.Folder.seen g.F.Folder.may_leave served old next c.args.self.now
    → LeavesOnly g.F.Folder.moment g.F.Folder.left_since c.self.inside.folder c.prune_all.new.folder
    (IsPruning (length old.entries) (length served.entries) (g.F.Folder.seen c.self.inside.folder))
pruning g c faithful served old next has =
    let inside = rw (← c.self.view_is) at has in
    let kept : c.length-kept.result ≡ length old.entries = c.length-kept.ensures ∙ c.checkpoint.ensures.length
    ∙ ap (λ (x : Said). x.length) has.text in
    rw kept at (c.prune_all.ensures.any_moment faithful served old inside.keeps inside.staging)

-- and so does its end
pruned_last : (g : _) (c : After-prune_all g) → g.F.Folder.IsFaithful → (served old next : LogOf)
    → Has g.F.Folder.seen g.F.Folder.may_leave served old next c.args.self.now
    → IsPruning (length old.entries) (length served.entries) (g.F.Folder.seen c.self.inside.folder)
    (g.F.Folder.seen c.prune_all.new.folder)
pruned_last g c faithful served old next has = in_end _ _ _ g.met.F.Folder.counts_now _ _ _
    (pruning g c faithful served old next has) _ (g.met.F.Folder.seen_may_stay c.prune_all.new.folder)

pub returns-clause-pruned : goal.returns-clause-pruned
returns-clause-pruned g c = λ faithful. on_ok_weaker c.prune_all.result
    (λ done served old next has. prune_has _ _ served old next _ _ (rw (← c.self.view_is) at has)
    (pruned_last g (goal.at.returns-clause-pruned g c).After-prune_all faithful served old next has) done.1 done.0)
    (c.prune_all.ensures.done faithful)

pub returns-clause-any_moment : goal.returns-clause-any_moment
returns-clause-any_moment g c = λ faithful served old next has.
    let inside = rw (← c.self.view_is) at has in
    rw (← c.self.view_is) (leaves_weaker _ _ _ _ _ _
    (pruning g (goal.at.returns-clause-any_moment g c).After-prune_all faithful served old next has)
    (λ e was. pruned_moment served old _ inside.keeps e was))

pub returns-clause-only : goal.returns-clause-only
returns-clause-only g c = λ faithful served old next has.
    rw (← c.self.view_is) (served_pruned _ _ _ _
    (pruned_last g (goal.at.returns-clause-only g c).After-prune_all faithful served old next has))
