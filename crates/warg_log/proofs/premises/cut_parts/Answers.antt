use Rattle.std.proofs.Common.{[], arith}
use Rattle.warg_log.specs.Tree.{front_of, front_within}
use Rattle.warg_log.specs.Cut.{with_target, way_within, top_of}
use Rattle.warg_log.specs.Ranges.{leaves_from}
use Rattle.warg_log.proofs.PremiseLemmas.{own, nothing, empty_everywhere, not_full}
use Rattle.warg_log.proofs.WayLemmas.{starts}
use Rattle.warg_log.proofs.premises.cut_parts.Goals as goal

pub returns : goal.returns
unfolding way_within top_of front_of front_within
returns c = record {
  more = λ law. cc (law own (with_target empty_everywhere (leaves_from 5 1) []) (leaves_from 0 0)
      (λ is. omega (arith, starts is)) (λ full _. not_full full));
  other = λ law. cc (law own (with_target nothing (leaves_from 0 2) []) (leaves_from 0 2) (omega arith)
      (λ full beside. cc));
  apart = λ law. cc (law own (with_target empty_everywhere (leaves_from 5 1) []) (leaves_from 0 2) (omega arith)
      (λ is. omega (arith, starts is)));
}
