use Rattle.std.proofs.Common.{◌≡◌, map}
use Rattle.std.specs.List.{range_with_len}
use Rattle.warg_tiles.specs.Tiles.{node_in}
use Rattle.warg_tiles.proofs.tile.Tile.nodes.Given as goal

abbrev pub invariant-places : goal.invariant-places
invariant-places g l = map (λ x. x.0) l.nodes.items ≡ map (node_in l.self) (range_with_len 0 l.place)
