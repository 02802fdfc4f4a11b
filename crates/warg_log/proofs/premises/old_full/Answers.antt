use Rattle.warg_log.specs.Cut.{way_within, top_of}
use Rattle.warg_log.specs.Ranges.{leaves_from}
use Rattle.warg_log.proofs.PremiseLemmas.{own, empty_everywhere}
use Rattle.warg_log.proofs.premises.old_full.Goals as goal

pub returns : goal.returns
unfolding way_within top_of
returns c = λ law. cc (law own empty_everywhere (leaves_from 0 3))
