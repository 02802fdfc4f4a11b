use Rattle.warg_pages.specs.Visits.{IsAnyPage}
use Rattle.warg_pages.proofs.VisitedRoots.{root_of_pages}
use Rattle.warg_pages.proofs.laws.pages_hold_root.Goals as goal

pub returns : goal.returns
returns c = λ H. root_of_pages H IsAnyPage
