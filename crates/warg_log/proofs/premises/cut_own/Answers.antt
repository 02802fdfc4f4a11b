use Rattle.std.proofs.Common.{[], arith}
use Rattle.warg_log.specs.Nodes.{height_of, height_within, place_of}
use Rattle.warg_log.specs.Tree.{front_of, front_within, root_within}
use Rattle.warg_log.specs.Cut.{way_within, top_of}
use Rattle.warg_log.proofs.PremiseLemmas.{own}
use Rattle.warg_log.proofs.premises.cut_own.Goals as goal

pub returns : goal.returns
unfolding way_within top_of height_of height_within place_of root_within front_of front_within
returns c = record {
  some = λ law. cc (law own [] 0 0 (omega arith));
  length = λ law. cc (law own [] 0 2 (omega arith));
}
