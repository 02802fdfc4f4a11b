use Rattle.warg_registry.proofs.HeldEntries.{held_entry}
use Rattle.warg_registry.proofs.laws.held_entry.Goals as goal

pub returns : goal.returns
returns c = held_entry
