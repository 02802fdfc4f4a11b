use Rattle.warg_log.proofs.StackLemmas.{stands_pushed}
use Rattle.warg_log.proofs.laws.pushed_stands.Goals as goal

pub returns : goal.returns
returns c = stands_pushed
