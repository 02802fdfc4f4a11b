use Rattle.warg_paths.proofs.GrowthLemmas.{own_roots}
use Rattle.warg_paths.proofs.laws.own_consistency_path.Goals as goal

pub returns : goal.returns
returns c = own_roots
