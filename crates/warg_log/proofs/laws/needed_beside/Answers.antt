use Rattle.std.proofs.Common.{ap}
use Rattle.warg_log.specs.Walks.{read_on}
use Rattle.warg_log.proofs.OrderLemmas.{way_beside}
use Rattle.warg_log.proofs.WayLemmas.{beside_decides}
use Rattle.warg_log.proofs.laws.needed_beside.Goals as goal

pub returns : goal.returns
unfolding read_on
returns c = λ t r full beside. ap read_on (way_beside t r full ((beside_decides t r).0 beside))
