use Rattle.warg_tiles.proofs.FullLemmas.{all_full}
use Rattle.warg_tiles.proofs.laws.each_full_tile_once.Goals as goal

pub returns : goal.returns
returns c = all_full
