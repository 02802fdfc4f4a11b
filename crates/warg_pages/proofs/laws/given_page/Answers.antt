use Rattle.warg_pages.proofs.GivenPages.{given_page}
use Rattle.warg_pages.proofs.laws.given_page.Goals as goal

pub returns : goal.returns
returns c = given_page
