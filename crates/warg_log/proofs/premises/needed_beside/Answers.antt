use Rattle.std.proofs.Common.{refl}
use Rattle.warg_log.specs.Cut.{way_within}
use Rattle.warg_log.specs.Walks.{read_on}
use Rattle.warg_log.specs.Ranges.{leaves_from}
use Rattle.warg_log.proofs.premises.needed_beside.Goals as goal

pub returns : goal.returns
unfolding way_within read_on
returns c = record {
  full = λ law. cc (law (leaves_from 3 1) (leaves_from 0 3) refl);
  beside = λ law. cc (law (leaves_from 0 1) (leaves_from 0 1) (0, refl));
}
