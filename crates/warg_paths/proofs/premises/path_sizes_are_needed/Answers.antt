use Rattle.warg_paths.proofs.PremiseLemmas.{path_sizes_are_needed}
use Rattle.warg_paths.proofs.premises.path_sizes_are_needed.Goals as goal

pub returns : goal.returns
returns c = path_sizes_are_needed
