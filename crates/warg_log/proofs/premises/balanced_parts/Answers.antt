use Rattle.std.proofs.Common.{arith}
use Rattle.warg_log.specs.Nodes.{balanced_within}
use Rattle.warg_log.specs.Tree.{front_of, front_within}
use Rattle.warg_log.proofs.PremiseLemmas.{not_full}
use Rattle.warg_log.proofs.premises.balanced_parts.Goals as goal

pub returns : goal.returns
unfolding balanced_within front_of front_within
returns c = record {
  more = λ law. cc (law 0 0 not_full);
  not_full = λ law. cc (law 0 2 (omega arith));
}
