use Rattle.std.proofs.Common.{[], refl}
use Rattle.warg_log.specs.Cut.{with_target, way_within, top_of}
use Rattle.warg_log.specs.Ranges.{leaves_from}
use Rattle.warg_log.proofs.PremiseLemmas.{own, nothing, empty_everywhere}
use Rattle.warg_log.proofs.premises.cut_beside.Goals as goal

pub returns : goal.returns
unfolding way_within top_of
returns c = record {
  full = λ law. cc (law own (with_target empty_everywhere (leaves_from 3 1) []) (leaves_from 0 3) refl);
  beside = λ law. cc (law own (with_target nothing (leaves_from 0 1) []) (leaves_from 0 1) (0, refl));
}
