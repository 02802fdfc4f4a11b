use Rattle.warg_pages.proofs.PagesBelow.{page_below}
use Rattle.warg_pages.proofs.laws.page_below.Goals as goal

pub returns : goal.returns
returns c = page_below
