use Rattle.warg_log.specs.Nodes.{balanced_within}
use Rattle.warg_log.proofs.premises.balanced_full.Goals as goal

pub returns : goal.returns
unfolding balanced_within
returns c = λ law. cc (law 0 0)
