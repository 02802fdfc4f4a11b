use Rattle.std.proofs.Common.{[]}
use Rattle.warg_log.specs.Nodes.{height_of, height_within, place_of}
use Rattle.warg_log.specs.Cut.{way_within, top_of}
use Rattle.warg_log.proofs.PremiseLemmas.{own, nothing}
use Rattle.warg_log.proofs.premises.cut_by_walk.Goals as goal

pub returns : goal.returns
unfolding way_within top_of height_of height_within place_of
returns c = λ law. cc (law own nothing 0 [] 2 0 [] [])
