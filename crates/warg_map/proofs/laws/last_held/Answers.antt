use Rattle.warg_map.proofs.LastInserted.{get-map_of}
use Rattle.warg_map.proofs.laws.last_held.Goals as goal

pub returns : goal.returns
returns c = get-map_of
