use Rattle.warg_pages.proofs.PagesBelow.{page_at_bytes}
use Rattle.warg_pages.proofs.laws.page_at_bytes.Goals as goal

pub returns : goal.returns
returns c = page_at_bytes
