use Rattle.std.proofs.Common.{[], ◌∷◌}
use Rattle.warg_log.proofs.PremiseLemmas.{own}
use Rattle.warg_log.proofs.premises.stands_for_root.Goals as goal

pub returns : goal.returns
returns c = λ law. cc (law own (record { len = 1; digests = (5 ∷ []) ∷ [] }) [])
