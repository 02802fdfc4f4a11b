use Rattle.std.proofs.Common.{refl}
use Rattle.warg_paths.proofs.MakeLemmas.{consistency_end}
use Rattle.warg_paths.proofs.laws.consistency_of_all.Goals as goal

pub returns : goal.returns
returns c R whole r some = consistency_end R whole r.count r some refl
