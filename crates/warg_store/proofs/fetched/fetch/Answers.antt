use Rattle.std.proofs.Common.{◌∙◌, arith}
use Rattle.warg_tiles.specs.Between.{IsTileOf}
use Rattle.warg_protobuf.proofs.ForCallers.{all_at}
use Rattle.warg_store.proofs.EnoughLemmas.{gives_next}
use Rattle.warg_store.proofs.FetchedLemmas.{wide_in}
use Rattle.warg_store.proofs.WholeLemmas.{err_same}
use Rattle.warg_store.proofs.fetched.fetch.Goals as goal

pub tiles-preserved : goal.tiles-preserved
tiles-preserved g c = record {
  faults = omega (arith, c.tiles.invariant.faults, c.fetch_one.ensures.cause.later);
  own = λ faithful log n files count below most of own.
      let tile = c.tile-item.result in
      let named : IsTileOf n tile = rw c.tile-item.is
      (all_at (IsTileOf n) c.args.tiles.now c.tiles.tile-index tile of (omega arith)) in
      let wide = wide_in log n c.args.log_length tile c.tile_at.result count most named c.tile_at.ensures.level
      (c.tile_at.ensures.of n below most named) in
      c.in_ok-fetch_one.ensures.own faithful log (rw (c.tiles.invariant.seen faithful) files) wide
      (c.tiles.invariant.own faithful log n files count below most of own);
  gives = gives_next c.args.fetched.now c.tiles.fetched c.fetch_one.new.fetched c.args.tiles.now c.tiles.tile-index
      c.tile-item.result c.tile_at.result (omega arith) c.tile-item.is c.tile_at.ensures.level c.tile_at.ensures.number
      c.tile_at.ensures.width c.tiles.invariant.gives c.in_ok-fetch_one.ensures.gives;
  seen = λ faithful. c.fetch_one.ensures.seen faithful ∙ c.tiles.invariant.seen faithful;
  crash = λ faithful f left. c.tiles.invariant.crash faithful f (c.fetch_one.ensures.crash faithful f left);
}

pub returns-in_err-fetch_one-clause-whole : goal.returns-in_err-fetch_one-clause-whole
returns-in_err-fetch_one-clause-whole g c = λ faithful log n files count below most of.
    let tile = c.tile-item.result in
    let named : IsTileOf n tile = rw c.tile-item.is
    (all_at (IsTileOf n) c.args.tiles.now c.tiles.tile-index tile of (omega arith)) in
    let wide = wide_in log n c.args.log_length tile c.tile_at.result count most named c.tile_at.ensures.level
    (c.tile_at.ensures.of n below most named) in
    err_same _ _ _ c.from_residual.ensures.1
    (c.in_err-fetch_one.ensures.whole faithful log (rw (c.tiles.invariant.seen faithful) files) wide)
