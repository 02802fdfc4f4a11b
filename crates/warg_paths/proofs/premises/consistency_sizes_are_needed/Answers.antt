use Rattle.warg_paths.proofs.PremiseLemmas.{consistency_sizes_are_needed}
use Rattle.warg_paths.proofs.premises.consistency_sizes_are_needed.Goals as goal

pub returns : goal.returns
returns c = consistency_sizes_are_needed
