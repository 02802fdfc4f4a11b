use Rattle.warg_paths.proofs.PremiseLemmas.{old_entries_are_needed}
use Rattle.warg_paths.proofs.premises.old_entries_are_needed.Goals as goal

pub returns : goal.returns
returns c = old_entries_are_needed
