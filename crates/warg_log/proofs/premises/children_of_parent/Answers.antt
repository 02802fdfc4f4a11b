use Rattle.std.proofs.Common.{refl, arith}
use Rattle.warg_log.proofs.premises.children_of_parent.Goals as goal

pub returns : goal.returns
returns c = record {
  left_left_child = λ law. omega (arith, (law 1 2 0 2 0 0 refl refl refl refl).0);
  left_right_child = λ law. omega (arith, (law 0 1 0 2 0 0 refl refl refl refl).1);
  left_node = λ law. omega (arith, (law 0 2 1 2 0 0 refl refl refl refl).0);
  left_sibling = λ law. omega (arith, (law 0 2 0 1 0 0 refl refl refl refl).1);
  left_place = λ law. omega (arith, (law 0 2 2 0 0 1 refl refl refl refl).0);
  right_left_child = λ law. omega (arith, (law 1 2 2 0 0 1 refl refl refl refl).0);
  right_right_child = λ law. omega (arith, (law 0 1 2 0 0 1 refl refl refl refl).1);
  right_node = λ law. omega (arith, (law 0 2 1 0 0 1 refl refl refl refl).1);
  right_sibling = λ law. omega (arith, (law 0 2 2 1 0 1 refl refl refl refl).0);
  right_place = λ law. omega (arith, (law 0 2 0 2 0 0 refl refl refl refl).0);
}
