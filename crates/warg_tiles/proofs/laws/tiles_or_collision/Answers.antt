use Rattle.warg_tiles.proofs.ReadLemmas.{tiles_collide}
use Rattle.warg_tiles.proofs.laws.tiles_or_collision.Goals as goal

pub returns : goal.returns
returns c = tiles_collide
