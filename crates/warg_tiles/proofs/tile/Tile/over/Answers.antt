use Rattle.std.proofs.Common.{◌+◌, ◌*◌, ◌%◌, ◌^◌, ◌<◌, ◌≤◌, arith}
use Rattle.warg_log.specs.Nodes.{place_of}
use Rattle.warg_tiles.proofs.TileLemmas.{height_most, place_fits, width_most, tile_made}
use Rattle.warg_tiles.proofs.tile.Tile.over.Goals as goal

pub new-requires-clause-level : goal.new-requires-clause-level
new-requires-clause-level c = omega
    (arith, height_most c.args.node.0 c.height-height.result _ c.height-height.ensures.node (omega arith))

pub new-requires-clause-most : goal.new-requires-clause-most
new-requires-clause-most c =
    let fits : place_of c.args.node.0 * 2 ^ (c.height-height.result % 8) < 2 ^ 64 =
    place_fits c.args.node.0 c.height-height.result _ c.height-height.ensures.node (omega arith) in
    let most : place_of c.args.node.0 * 2 ^ (c.height-height.result % 8) % 256 + 2 ^ (c.height-height.result % 8)
    ≤ 256 = width_most _ _ (omega arith) in
    rw c.place_of.ensures (omega arith)

pub returns : goal.returns
returns c =
    tile_made c.args.node.0 c.height-height.result c.place_of.result c.new.result
    (omega arith) c.height-height.ensures.node c.height-height.ensures.value c.place_of.ensures
    c.new.ensures.level c.new.ensures.number c.new.ensures.width
