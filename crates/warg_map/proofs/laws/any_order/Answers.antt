use Rattle.warg_map.proofs.LastInserted.{inserted-order}
use Rattle.warg_map.proofs.laws.any_order.Goals as goal

pub returns : goal.returns
returns c = inserted-order
