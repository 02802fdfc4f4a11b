use Rattle.std.proofs.Common.{arith}
use Rattle.warg_log.specs.Tree.{front_of, front_within}
use Rattle.warg_log.specs.Cut.{way_within, top_of}
use Rattle.warg_log.specs.Ranges.{leaves_from}
use Rattle.warg_log.proofs.PremiseLemmas.{own, nothing, empty_everywhere, not_full}
use Rattle.warg_log.proofs.premises.old_parts.Goals as goal

pub returns : goal.returns
unfolding way_within top_of front_of front_within
returns c = record {
  more = λ law. cc (law own nothing (leaves_from 0 0) not_full);
  not_full = λ law. cc (law own empty_everywhere (leaves_from 0 2) (omega arith));
}
