use Rattle.std.proofs.Common.{arith}
use Rattle.warg_log.specs.Nodes.{height_of, height_within, place_of}
use Rattle.warg_log.specs.Cut.{way_within}
use Rattle.warg_log.specs.Walks.{read_on}
use Rattle.warg_log.proofs.premises.needed_exist.Goals as goal

pub returns : goal.returns
unfolding way_within read_on height_of height_within place_of
returns c = λ law. omega (arith, (law 0 0).0)
