use Rattle.std.proofs.Common.{[], ◌∷◌}
use Rattle.warg_pages.proofs.AuditPremises.{no_one_list}
use Rattle.warg_pages.proofs.premises.visited_pages_are_needed.Goals as goal

pub returns : goal.returns
returns c = λ H law. no_one_list _ (law [] 0 []) (law (0 ∷ []) 0 [])
