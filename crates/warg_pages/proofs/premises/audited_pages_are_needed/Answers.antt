use Rattle.std.proofs.Common.{[], ◌∷◌, refl}
use Rattle.warg_pages.specs.Audits.{AreInPages}
use Rattle.warg_pages.proofs.AuditPremises.{no_one_list}
use Rattle.warg_pages.proofs.premises.audited_pages_are_needed.Goals as goal

pub returns : goal.returns
unfolding AreInPages
returns c = λ H law. no_one_list _ (law [] 0 [] [] [] tt refl) (law (0 ∷ []) 0 [] [] [] tt refl)
