use Rattle.std.proofs.Common.{map, take}
use Rattle.warg_tiles.specs.Fetching.{IsAdded}
use Rattle.warg_tiles.proofs.fetch.add_nodes.Given as goal

abbrev pub invariant-nodes : goal.invariant-nodes
invariant-nodes g l = IsAdded l.length l.initial.tiles.items l.tiles.items (map (λ x. x.0) (take l.node-index l.nodes))
