use Rattle.std.proofs.Common.{refl, arith}
use Rattle.warg_log.specs.Tree.{front_of, front_within}
use Rattle.warg_log.specs.Cut.{way_within}
use Rattle.warg_log.specs.Walks.{read_on}
use Rattle.warg_log.specs.Ranges.{leaves_from}
use Rattle.warg_log.proofs.PremiseLemmas.{not_full}
use Rattle.warg_log.proofs.WayLemmas.{starts, counts}
use Rattle.warg_log.proofs.premises.needed_parts.Goals as goal

pub returns : goal.returns
unfolding way_within read_on front_of front_within
returns c = record {
  rest_first_more = λ law. cc (law (leaves_from 5 1) (leaves_from 0 0) (λ full _. not_full full) refl);
  rest_first_apart = λ law. cc (law (leaves_from 5 1) (leaves_from 0 2) (omega arith) refl);
  rest_first_order = λ law. grind (arith, law (leaves_from 0 1) (leaves_from 0 3) (omega arith) (λ full beside. cc));
  front_first_more = λ law. grind (
    arith,
    law (leaves_from 0 1) (leaves_from 0 0) (λ is. omega (arith, counts is))
        (λ beside. cc),
  );
  front_first_other = λ law. cc (law (leaves_from 0 2) (leaves_from 0 2) (omega arith) (λ beside. cc));
  front_first_order = λ law. grind (
    arith,
    law (leaves_from 5 1) (leaves_from 0 3) (omega arith)
        (λ is. omega (arith, starts is)),
  );
}
