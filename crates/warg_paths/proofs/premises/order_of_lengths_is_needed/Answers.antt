use Rattle.warg_paths.proofs.PremiseLemmas.{order_of_lengths_is_needed}
use Rattle.warg_paths.proofs.premises.order_of_lengths_is_needed.Goals as goal

pub returns : goal.returns
returns c = order_of_lengths_is_needed
