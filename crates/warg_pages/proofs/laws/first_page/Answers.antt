use Rattle.std.proofs.Common.{arith, [], refl}
use Rattle.warg_pages.proofs.PageRoots.{page_root}
use Rattle.warg_pages.proofs.laws.first_page.Goals as goal

pub returns : goal.returns
returns c = λ H es. page_root H es [] 0 (omega arith) refl
