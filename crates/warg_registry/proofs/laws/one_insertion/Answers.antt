use Rattle.warg_registry.proofs.Entries.{one_insertion}
use Rattle.warg_registry.proofs.laws.one_insertion.Goals as goal

pub returns : goal.returns
returns c = one_insertion
