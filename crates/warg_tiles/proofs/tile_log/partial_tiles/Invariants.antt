use Rattle.std.proofs.Common.{◌≡◌, ◌*◌, ◌/◌, ◌^◌, List, ℕ, length, map, ◌++◌}
use Rattle.warg_tiles.specs.TileLog.{AreTilesOf, split_into, partial_tiles}
use Rattle.warg_tiles.specs.Private.Edges.{width_from, edge_from, partial_from}
use Rattle.warg_tiles.proofs.PartialLemmas.{partial_below}
use Rattle.warg_tiles.proofs.tile_log.partial_tiles.Given as goal

abbrev pub invariant-levels : goal.invariant-levels
invariant-levels g l = record {
  width : length l.rest ≡ width_from l.level (l.count / 2 ^ (8 * l.level));
  edge : (H : List ℕ → List ℕ) (ds : List (List ℕ)) → length ds ≡ l.count → l.edge ≡ edge_from H ds 0 l.count
      → l.rest ≡ edge_from H ds l.level (l.count / 2 ^ (8 * l.level));
  split : map (λ t. (t.tile, t.digests.items)) l.tiles.items ++ split_into (partial_from l.count l.level) l.rest
      ≡ split_into (partial_tiles l.count) l.edge;
  tiles : (H : List ℕ → List ℕ) (ds : List (List ℕ)) → length ds ≡ l.count → l.edge ≡ edge_from H ds 0 l.count
      → AreTilesOf H ds (partial_below l.count l.level) (map (λ t. (t.tile, t.digests.items)) l.tiles.items);
}
