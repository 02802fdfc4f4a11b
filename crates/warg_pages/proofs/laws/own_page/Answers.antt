use Rattle.warg_pages.proofs.PageRoots.{page_root}
use Rattle.warg_pages.proofs.laws.own_page.Goals as goal

pub returns : goal.returns
returns c = page_root
