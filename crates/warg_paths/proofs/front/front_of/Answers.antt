use Rattle.std.proofs.Common.{arith}
use Rattle.std.proofs.Math.Nat.{pow-suc}
use Rattle.warg_log.proofs.ForCallers.{front_of_is}
use Rattle.warg_paths.proofs.front.front_of.Goals as goal

pub returns-clause-value : goal.returns-clause-value
returns-clause-value c =
    let e = c.ilog2.result in
    grind (arith, front_of_is e c.args.count (omega (arith)) (omega (arith, pow-suc 2 e)))
