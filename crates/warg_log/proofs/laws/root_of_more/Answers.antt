use Rattle.warg_log.proofs.RootLemmas.{front_is, root_of_split}
use Rattle.warg_log.proofs.laws.root_of_more.Goals as goal

pub returns : goal.returns
returns c H ds more = let f = front_is _ more in rw f.1 (root_of_split H f.0 ds f.2 f.3)
