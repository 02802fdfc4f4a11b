use Rattle.std.proofs.Common.{[], arith}
use Rattle.warg_log.proofs.PremiseLemmas.{own}
use Rattle.warg_log.proofs.premises.pushed_stands.Goals as goal

pub returns : goal.returns
returns c = λ law. omega (arith, (law own (record { len = 5; digests = [] }) [] []).count)
