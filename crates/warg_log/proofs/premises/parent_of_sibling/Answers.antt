use Rattle.std.proofs.Common.{refl, arith}
use Rattle.warg_log.proofs.premises.parent_of_sibling.Goals as goal

pub returns : goal.returns
returns c = record {
  of_sibling = λ law. omega (arith, law 0 1 0 0 refl);
  of_node = λ law. omega (arith, law 1 0 0 0 refl);
}
