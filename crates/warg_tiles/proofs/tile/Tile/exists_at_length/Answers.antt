use Rattle.std.proofs.Common.{◌+◌, ◌*◌, ◌/◌, ◌^◌, ◌≤◌, ◌↔◌, IsTrue, false, subst, arith}
use Rattle.std.proofs.Math.Dec.{leb}
use Rattle.warg_tiles.specs.Tiles.{TileAt, tile_end}
use Rattle.warg_tiles.proofs.TileLemmas.{at_no_length, by_nodes}
use Rattle.warg_tiles.proofs.tile.Tile.exists_at_length.Goals as goal

pub returns-then-self-ge8 : goal.returns-then-self-ge8
returns-then-self-ge8 c = subst (λ (t : TileAt). (IsTrue false ↔ (tile_end t ≤ c.args.length))) c.self.view_is
    (at_no_length _ c.args.length (λ low few. omega (arith, low, c.if-self-ge8.true)) c.self.invariant.1 c.requires)

pub returns : goal.returns
returns c =
    let inside = c.self.inside in
    subst (λ (t : TileAt). (IsTrue (leb (256 * inside.number + inside.width) (c.args.length / 2 ^ (8 * inside.level))) ↔
    (tile_end t ≤ c.args.length))) c.self.view_is
    (by_nodes record { level = inside.level; number = inside.number; width = inside.width } c.args.length)
