use Rattle.std.proofs.Common.{◌≡◌, ◌++◌, ap, ◌∙◌, arith}
use Rattle.std.specs.Option.{option_to_list}
use Rattle.warg_tiles.specs.TileLog.{last_tile, tile_digests}
use Rattle.warg_tiles.specs.Private.Edges.{root_if}
use Rattle.warg_tiles.proofs.PushLemmas.{width_below, edge_below}
use Rattle.warg_tiles.proofs.ChunkLemmas.{root_step}
use Rattle.warg_tiles.proofs.SplitLemmas.{root_next}
use Rattle.warg_tiles.proofs.tile_log.root_of_edge.Goals as goal

pub levels-preserved : goal.levels-preserved
levels-preserved g c =
    let H = g.D.SupportedDigest.digest in
    record {
      width = omega (
        arith,
        c.split_at.ensures.front_len,
        width_below c.levels.level c.args.count _ c.levels-test.true
            c.levels.invariant.width,
      );
      edge = λ ds n is. c.split_at.ensures.front
          ∙ (edge_below H ds c.levels.rest.now c.levels.level c.args.count c.levels-test.true
          (c.levels.invariant.edge ds n is)).0;
      by_tiles = root_next H c.args.count c.levels.level c.levels.rest.now c.split_at.result.0.now
          c.split_at.result.1.now c.levels.root c.root_with-root.result _ c.levels-test.true
          (omega (arith, width_below c.levels.level c.args.count _ c.levels-test.true c.levels.invariant.width))
          c.split_at.ensures.front c.split_at.ensures.back c.root_with-root.ensures c.levels.invariant.by_tiles;
      root = λ ds n is. c.root_with-root.ensures
          ∙ ap (λ d. root_if H (d ++ option_to_list c.levels.root))
          (c.split_at.ensures.back ∙ (edge_below H ds c.levels.rest.now c.levels.level c.args.count
          c.levels-test.true (c.levels.invariant.edge ds n is)).1)
          ∙ ap (λ o. root_if H (tile_digests H ds (last_tile c.args.count c.levels.level) ++ option_to_list o))
          (c.levels.invariant.root ds n is)
          ∙ root_step H ds c.levels.level c.args.count n;
    }

pub returns-clause-by_tiles : goal.returns-clause-by_tiles
returns-clause-by_tiles g c =
    let all : c.levels.level ≡ 8 = omega arith in
    rw all at c.levels.invariant.by_tiles
