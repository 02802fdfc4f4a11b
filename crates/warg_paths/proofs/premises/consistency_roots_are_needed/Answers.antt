use Rattle.warg_paths.proofs.PremiseLemmas.{consistency_roots_are_needed}
use Rattle.warg_paths.proofs.premises.consistency_roots_are_needed.Goals as goal

pub returns : goal.returns
returns c = consistency_roots_are_needed
