use Rattle.std.proofs.Common.{[], ◌∷◌, None}
use Rattle.std.specs.FinMap.{empty}
use Rattle.warg_map.proofs.PremiseLemmas.{own, nothing_proof}
use Rattle.warg_map.proofs.premises.one_absence_proof.Goals as goal

pub returns : goal.returns
returns c = λ law. cc (law own empty [] (None ∷ []) [] (nothing_proof own []))
