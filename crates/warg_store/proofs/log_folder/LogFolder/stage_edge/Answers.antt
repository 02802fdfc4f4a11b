use Rattle.std.proofs.Common.{◌≡◌, ◌/◌, inl, inr, refl, ap, arith}
use Rattle.std.proofs.lemmas.Result.{on_ok_weaker}
use Rattle.warg_tiles.specs.CheckpointText.{Said}
use Rattle.warg_folder.specs.Moments.{LeavesOnly}
use Rattle.warg_folder.specs.Commits.{IsBeside}
use Rattle.warg_store.proofs.GrowingLemmas.{has_all, last_bundle}
use Rattle.warg_store.proofs.PathLemmas.{same_tile}
use Rattle.warg_store.proofs.ReadyRuns.{stages_twice}
use Rattle.warg_store.proofs.log_folder.LogFolder.stage_edge.Goals.{After-stage_tiles}
use Rattle.warg_store.proofs.log_folder.LogFolder.stage_edge.Goals as goal

-- making room and staging the tiles leave what is staged beside the log
tiles_staged : (g : _) (c : After-stage_tiles g) → g.F.Folder.IsFaithful → LeavesOnly g.F.Folder.moment
    g.F.Folder.left_since c.args.self.now.folder c.stage_tiles.new.folder
    (IsBeside (g.F.Folder.seen c.args.self.now.folder))
tiles_staged g c faithful = stages_twice g.met.F.Folder.counts_now g.met.F.Folder.seen_may_stay
    (rw (← c.self.view_is) at (c.make_room.ensures.any_moment faithful)) (c.stage_tiles.ensures.any_moment faithful)

pub returns-then-self-eq0-clause-staged : goal.returns-then-self-eq0-clause-staged
returns-then-self-eq0-clause-staged g c = λ faithful served old next has new own.
    let same = rw (← c.self.view_is) at c.make_room.ensures.same in
    has_all _ _ served old next _ _ _
    (rw (← c.self.view_is) at (c.in_ok-make_room.ensures.has faithful served old next has))
    (rw (← c.self.view_is) at c.in_ok-make_room.ensures.room)
    (omega (arith, new, ap (λ (s : Said). s.length) same.text, same.length)) c.length-number.ensures.fits own refl refl
    refl refl
    (inl (
      c.if-self-eq0.true,
      rw (c.length-older.ensures, c.checkpoint.ensures.length) at (c.in_ok-stage_tiles.ensures.staged faithful),
    ))
    (c.stage_tiles.ensures.staging faithful)

pub returns-clause-staged : goal.returns-clause-staged
returns-clause-staged g c = λ faithful.
    let tile : c.new-tile.result ≡ last_bundle (c.self.inside.edge.len / 256) c.self.inside.held =
    same_tile _ (last_bundle (c.self.inside.edge.len / 256) c.self.inside.held) c.new-tile.ensures.level
    (omega (arith, c.new-tile.ensures.number, c.length-number.ensures.value)) c.new-tile.ensures.width in
    let same = rw (← c.self.view_is) at c.make_room.ensures.same in
    on_ok_weaker c.stage_bundle.result
    (λ is served old next has new own. has_all _ _ served old next _ _ _
    (rw (← c.self.view_is) at (c.in_ok-make_room.ensures.has faithful served old next has))
    (rw (← c.self.view_is) at c.in_ok-make_room.ensures.room)
    (omega (arith, new, ap (λ (s : Said). s.length) same.text, same.length)) c.length-number.ensures.fits own refl refl
    refl refl
    (inr (
      omega (arith, c.if-self-eq0.false),
      rw (
        tile,
        c.as_slice.ensures.value,
        c.in_ok-stage_tiles.ensures.staged faithful,
        c.length-older.ensures,
        c.checkpoint.ensures.length,
      ) at is,
    ))
    (c.stage_bundle.ensures.staging faithful))
    (c.stage_bundle.ensures.staged faithful)

pub returns-in_err-make_room-clause-any_moment : goal.returns-in_err-make_room-clause-any_moment
returns-in_err-make_room-clause-any_moment g c = λ faithful. c.make_room.ensures.any_moment faithful

pub returns-in_err-stage_tiles-clause-any_moment : goal.returns-in_err-stage_tiles-clause-any_moment
returns-in_err-stage_tiles-clause-any_moment g c =
    tiles_staged g (goal.at.returns-in_err-stage_tiles-clause-any_moment g c).After-stage_tiles

pub returns-then-self-eq0-clause-any_moment : goal.returns-then-self-eq0-clause-any_moment
returns-then-self-eq0-clause-any_moment g c =
    tiles_staged g (goal.at.returns-then-self-eq0-clause-any_moment g c).After-stage_tiles

pub returns-clause-any_moment : goal.returns-clause-any_moment
returns-clause-any_moment g c = λ faithful. stages_twice g.met.F.Folder.counts_now g.met.F.Folder.seen_may_stay
    (tiles_staged g (goal.at.returns-clause-any_moment g c).After-stage_tiles faithful)
    (c.stage_bundle.ensures.any_moment faithful)
