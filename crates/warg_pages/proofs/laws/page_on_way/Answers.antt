use Rattle.std.proofs.Common.{arith}
use Rattle.warg_pages.proofs.KeyPrefixes.{key_split}
use Rattle.warg_pages.proofs.OneMore.{one_more}
use Rattle.warg_pages.proofs.laws.page_on_way.Goals as goal

pub returns : goal.returns
returns c = λ H es e depth is lt.
    one_more H es e _ _ _ (is.are_bytes depth 0 (omega arith)) (key_split H e.0 depth lt)
