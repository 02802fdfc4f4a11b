use Rattle.std.proofs.Common.{[], ◌∷◌, map, take}
use Rattle.std.specs.List.{flat_map}
use Rattle.warg_log.specs.Walks.{needed}
use Rattle.warg_tiles.specs.Fetching.{IsAdded}
use Rattle.warg_tiles.proofs.fetch.tiles_for_consistency.Given as goal

abbrev pub invariant-roots : goal.invariant-roots
invariant-roots g l = IsAdded l.new_length [] l.tiles.items
    (flat_map (λ t. t ∷ needed t l.new_length) (map (λ x. x.0) (take l.root-index l.root-items)))
