use Rattle.warg_pages.proofs.PageFormat.{one_page}
use Rattle.warg_pages.proofs.laws.one_page.Goals as goal

pub returns : goal.returns
returns c = one_page
