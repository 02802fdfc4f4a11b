use Rattle.std.proofs.Common.{[]}
use Rattle.warg_log.specs.Tree.{front_of, front_within, root_within}
use Rattle.warg_log.proofs.PremiseLemmas.{own}
use Rattle.warg_log.proofs.premises.root_of_more.Goals as goal

pub returns : goal.returns
unfolding root_within front_of front_within
returns c = λ law. cc (law own [])
