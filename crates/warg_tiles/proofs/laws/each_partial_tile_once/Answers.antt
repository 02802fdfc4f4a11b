use Rattle.warg_tiles.proofs.FullLemmas.{all_partial}
use Rattle.warg_tiles.proofs.laws.each_partial_tile_once.Goals as goal

pub returns : goal.returns
returns c = all_partial
