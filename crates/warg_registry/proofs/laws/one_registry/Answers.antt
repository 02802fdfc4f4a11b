use Rattle.warg_registry.proofs.Entries.{one_registry}
use Rattle.warg_registry.proofs.laws.one_registry.Goals as goal

pub returns : goal.returns
returns c = one_registry
