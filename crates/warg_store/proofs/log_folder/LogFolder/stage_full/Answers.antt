use Rattle.std.proofs.Common.{◌≡◌, rules, arith, refl}
use Rattle.warg_store.proofs.GrowingLemmas.{filled_has, bundle_tile}
use Rattle.warg_store.proofs.PathLemmas.{same_tile}
use Rattle.warg_store.proofs.ReadyRuns.{stages_twice}
use Rattle.warg_store.proofs.log_folder.LogFolder.stage_full.Goals as goal

pub returns-clause-has : goal.returns-clause-has
returns-clause-has g c = λ faithful served old next held has.
    let tile : c.new-tile.result ≡ bundle_tile c.new-tile.result.number = same_tile c.new-tile.result
    (bundle_tile c.new-tile.result.number) c.new-tile.ensures.level refl c.new-tile.ensures.width in
    filled_has _ _ served old next _ _ _ c.new-tile.result.number (rw (← c.self.view_is) at held)
    (rw (← c.self.view_is) at has) refl refl c.take_full.ensures.rest (search rules) refl c.full.ensures.tiles
    c.take_full.ensures.stands c.length-3.ensures.fits
    (omega (arith, c.new-tile.ensures.number, c.saturating_sub.ensures, c.length-3.ensures.value))
    (rw (
      tile,
      c.as_slice.ensures.value,
      c.in_ok-stage_tiles.ensures.staged faithful,
      c.length-2.ensures,
      c.checkpoint.ensures.length,
    ) at (c.in_ok-stage_bundle.ensures.staged faithful))
    (c.stage_bundle.ensures.staging faithful)

pub returns-in_err-stage_bundle-clause-any_moment : goal.returns-in_err-stage_bundle-clause-any_moment
returns-in_err-stage_bundle-clause-any_moment g c = λ faithful. rw (← c.self.view_is)
    (stages_twice g.met.F.Folder.counts_now g.met.F.Folder.seen_may_stay (c.stage_tiles.ensures.any_moment faithful)
    (c.stage_bundle.ensures.any_moment faithful))

pub returns-clause-any_moment : goal.returns-clause-any_moment
returns-clause-any_moment g c = λ faithful. rw (← c.self.view_is)
    (stages_twice g.met.F.Folder.counts_now g.met.F.Folder.seen_may_stay (c.stage_tiles.ensures.any_moment faithful)
    (c.stage_bundle.ensures.any_moment faithful))
