use Rattle.warg_tiles.proofs.GrowthLemmas.{all_new}
use Rattle.warg_tiles.proofs.laws.each_new_tile_once.Goals as goal

pub returns : goal.returns
returns c = all_new
