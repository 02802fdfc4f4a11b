use Rattle.std.proofs.Common.{arith}
use Rattle.warg_log.specs.Tree.{front_of, front_within}
use Rattle.warg_log.proofs.premises.front_is_greatest.Goals as goal

pub returns : goal.returns
unfolding front_of front_within
returns c = λ law. omega (arith, (law 1).1)
