use Rattle.std.proofs.Common.{[], ◌∷◌}
use Rattle.warg_pages.proofs.MoreInsertions.{quiet_page}
use Rattle.warg_pages.proofs.OneMore.{elsewhere}
use Rattle.warg_pages.proofs.laws.page_off_way.Goals as goal

pub returns : goal.returns
returns c = λ H es e p f. quiet_page H es (e ∷ []) p (elsewhere H p e f)
