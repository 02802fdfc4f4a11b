use Rattle.std.proofs.Common.{arith, rules}
use Rattle.warg_log.proofs.SparseLemmas.{ascends_by_steps}
use Rattle.warg_log.proofs.sparse_data.are_ascending.Goals as goal

pub returns : goal.returns
returns g c = (
  λ _. ascends_by_steps c.args.pairs.now (λ k d lt. c.places.invariant k d (omega arith)),
  λ _. search rules,
)
