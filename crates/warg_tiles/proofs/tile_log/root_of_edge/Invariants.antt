use Rattle.std.proofs.Common.{◌≡◌, ◌*◌, ◌/◌, ◌^◌, List, ℕ, length, drop, None}
use Rattle.warg_tiles.specs.TileLog.{root_on, split_into, partial_tiles}
use Rattle.warg_tiles.specs.Private.Edges.{width_from, edge_from, root_if, partial_from}
use Rattle.warg_tiles.proofs.tile_log.root_of_edge.Given as goal

abbrev pub invariant-levels : goal.invariant-levels
invariant-levels g l = record {
  width : length l.rest ≡ width_from l.level (l.count / 2 ^ (8 * l.level));
  edge : (ds : List (List ℕ)) → length ds ≡ l.count → l.edge ≡ edge_from g.D.SupportedDigest.digest ds 0 l.count
      → l.rest ≡ edge_from g.D.SupportedDigest.digest ds l.level (l.count / 2 ^ (8 * l.level));
  by_tiles : root_on g.D.SupportedDigest.digest l.root (split_into (partial_from l.count l.level) l.rest)
      ≡ root_on g.D.SupportedDigest.digest None (split_into (partial_tiles l.count) l.edge);
  root : (ds : List (List ℕ)) → length ds ≡ l.count → l.edge ≡ edge_from g.D.SupportedDigest.digest ds 0 l.count
      → l.root ≡ root_if g.D.SupportedDigest.digest (drop (l.count / 2 ^ (8 * l.level) * 2 ^ (8 * l.level)) ds);
}
