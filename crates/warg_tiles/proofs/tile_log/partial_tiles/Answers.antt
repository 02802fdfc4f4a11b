use Rattle.std.proofs.Common.{◌≡◌, map, sym, ap, ◌∙◌, arith}
use Rattle.std.proofs.lemmas.List.{append-nil}
use Rattle.warg_tiles.proofs.PushLemmas.{width_below, edge_below}
use Rattle.warg_tiles.proofs.PartialLemmas.{partial_more}
use Rattle.warg_tiles.proofs.SplitLemmas.{split_more}
use Rattle.warg_tiles.proofs.tile_log.partial_tiles.Goals as goal

pub levels-preserved : goal.levels-preserved
levels-preserved g c = record {
  width = omega (
    arith,
    c.split_at.ensures.front_len,
    width_below c.levels.level c.args.count _ c.levels-test.true
        c.levels.invariant.width,
  );
  edge = λ H ds n is. c.split_at.ensures.front
      ∙ (edge_below H ds c.levels.rest.now c.levels.level c.args.count c.levels-test.true
      (c.levels.invariant.edge H ds n is)).0;
  split = split_more c.args.count c.levels.level c.levels.rest.now c.split_at.result.0.now c.split_at.result.1.now _ _ _
      c.levels-test.true c.split_at.ensures.front c.split_at.ensures.back
      (λ none. ap (map (λ t. (t.tile, t.digests.items))) (c.in_ok-push_partial.ensures.none none))
      c.in_ok-push_partial.ensures.some c.levels.invariant.split;
  tiles = λ H ds n is. partial_more H ds c.split_at.result.1.now c.args.count c.levels.level _ _ n
      (c.split_at.ensures.back ∙ (edge_below H ds c.levels.rest.now c.levels.level c.args.count c.levels-test.true
      (c.levels.invariant.edge H ds n is)).1)
      (λ none. ap (map (λ t. (t.tile, t.digests.items))) (c.in_ok-push_partial.ensures.none none))
      c.in_ok-push_partial.ensures.some (c.levels.invariant.tiles H ds n is);
}

pub overflow_sub-rest : goal.overflow_sub-rest
overflow_sub-rest g c = let low = width_below c.levels.level c.args.count _ c.levels-test.true
    c.levels.invariant.width in omega (arith, low)

pub push_partial-requires-clause-count : goal.push_partial-requires-clause-count
push_partial-requires-clause-count g c = let low = width_below c.levels.level c.args.count _ c.levels-test.true
    c.levels.invariant.width in omega (arith, low, c.split_at.ensures.back_len)

pub returns-clause-split : goal.returns-clause-split
returns-clause-split g c =
    let all : c.levels.level ≡ 8 = omega arith in
    sym (append-nil _) ∙ rw all at c.levels.invariant.split

pub returns-clause-own : goal.returns-clause-own
returns-clause-own g c = λ H ds n is.
    let all : c.levels.level ≡ 8 = omega arith in
    rw all at (c.levels.invariant.tiles H ds n is)
