use Rattle.warg_registry.proofs.Entries.{one_list}
use Rattle.warg_registry.proofs.laws.one_list.Goals as goal

pub returns : goal.returns
returns c = one_list
