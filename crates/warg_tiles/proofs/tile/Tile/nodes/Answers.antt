use Rattle.std.proofs.Common.{sym, arith}
use Rattle.std.proofs.lemmas.List.{map_push}
use Rattle.std.proofs.lemmas.List.FromFn.{map-range_with_len_more}
use Rattle.warg_log.specs.declared.node.Node.{Node}
use Rattle.warg_tiles.specs.Tiles.{node_in}
use Rattle.warg_tiles.proofs.tile.Tile.nodes.Goals as goal

pub places-preserved : goal.places-preserved
places-preserved g c =
    rw (
      c.in_ok-push.ensures.items,
      map_push (λ (x : Node). x.0) c.places.nodes.items c.node.result,
      c.places.invariant,
      c.node.ensures,
    ) (sym (map-range_with_len_more (node_in c.args.self.now) 0 c.places.place c.places.place
    (omega arith)))
