use Rattle.std.proofs.Common.{◌<◌, ◌∙◌, arith, refl}
use Rattle.warg_folder.specs.Moments.{LeavesOnly}
use Rattle.warg_store.specs.Log.{LogOf, IsCommitting}
use Rattle.warg_store.specs.Growing.{Has, IsEndOf}
use Rattle.warg_folder.proofs.ForCallers.{leaves_then, leaves_weaker, in_end}
use Rattle.warg_store.proofs.GrowingLemmas.{beside_committing, committing_then, all_kept}
use Rattle.warg_store.proofs.log_folder.LogFolder.put.Goals.{After-commit_log}
use Rattle.warg_store.proofs.log_folder.LogFolder.put.Goals as goal

-- a commit leaves what it may leave, staging before it included
committed : (g : _) (c : After-commit_log g) → g.F.Folder.IsFaithful → (served old next : LogOf)
    → Has g.F.Folder.seen g.F.Folder.may_leave served old next c.args.self.now
    → c.args.self.now.text.length < c.args.self.now.edge.len
    → IsEndOf next c.args.end.now.text c.args.end.now.bytes.items c.args.end.now.tiles.items
    → LeavesOnly g.F.Folder.moment g.F.Folder.left_since c.args.self.now.folder c.commit_log.new.folder
    (IsCommitting served old next (g.F.Folder.seen c.args.self.now.folder))
committed g c faithful served old next has more end =
    let first = g.F.Folder.seen c.args.self.now.folder in
    let all = rw (← c.self.view_is) at (c.in_ok-stage_edge.ensures.staged faithful served old next has more
    (rw c.as_slice.ensures.value end.tiles)) in
    let staged = rw (← c.self.view_is) at (c.stage_edge.ensures.any_moment faithful) in
    let beside = in_end _ _ _ g.met.F.Folder.counts_now _ _ _ staged _
    (g.met.F.Folder.seen_may_stay c.self.inside.folder) in
    leaves_then _ _ _ _ _ _ _ _ staged
    (c.commit_log.ensures.any_moment faithful served old next all.keeps all.extends all.staged
    (c.as_slice-2.ensures.value ∙ end.bytes) end.can)
    (λ f now. beside_committing served old next first f has.keeps now)
    (λ f now. committing_then served old next first (g.F.Folder.seen c.self.inside.folder) f beside now)

pub returns-in_err-stage_edge-clause-any_moment : goal.returns-in_err-stage_edge-clause-any_moment
returns-in_err-stage_edge-clause-any_moment g c = λ faithful served old next has more end.
    leaves_weaker _ _ _ _ _ _ (c.stage_edge.ensures.any_moment faithful)
    (λ f beside. beside_committing served old next (g.F.Folder.seen c.args.self.now.folder) f has.keeps beside)

pub returns-in_err-commit_log-clause-any_moment : goal.returns-in_err-commit_log-clause-any_moment
returns-in_err-commit_log-clause-any_moment g c =
    committed g (goal.at.returns-in_err-commit_log-clause-any_moment g c).After-commit_log

pub returns-clause-any_moment : goal.returns-clause-any_moment
returns-clause-any_moment g c = committed g (goal.at.returns-clause-any_moment g c).After-commit_log

pub returns-clause-put : goal.returns-clause-put
returns-clause-put g c = λ faithful served old next has more end.
    let all = rw (← c.self.view_is) at (c.in_ok-stage_edge.ensures.staged faithful served old next has more
    (rw c.as_slice.ensures.value end.tiles)) in
    let kept = c.in_ok-commit_log.ensures.next faithful served old next all.keeps all.extends all.staged
    (c.as_slice-2.ensures.value ∙ end.bytes) end.can in (
      kept.0,
      kept.1,
      all_kept _ _ served old next kept.0 _ _ all kept.2 (c.in_ok-commit_log.ensures.empty faithful)
          (c.in_ok-commit_log.ensures.ready faithful) refl refl
          c.take_full.ensures.rest refl refl c.take_full.ensures.stands (omega (arith, all.held)),
    )
