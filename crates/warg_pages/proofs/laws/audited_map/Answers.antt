use Rattle.warg_pages.specs.Visits.{IsAnyPage}
use Rattle.warg_pages.proofs.ForCallers.{audited}
use Rattle.warg_pages.proofs.laws.audited_map.Goals as goal

pub returns : goal.returns
returns c = λ H. audited H IsAnyPage
