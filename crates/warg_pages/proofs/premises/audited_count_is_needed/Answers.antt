use Rattle.std.proofs.Common.{◌≡◌, [], ◌∙◌}
use Rattle.warg_crypto.proofs.ForCallers.{zeros, ones, marked}
use Rattle.warg_pages.specs.Audits.{AreInPages}
use Rattle.warg_pages.proofs.AuditPremises.{no_root, one_page, visited}
use Rattle.warg_pages.proofs.premises.audited_count_is_needed.Goals as goal

pub returns : goal.returns
unfolding AreInPages
returns c = λ law. let same : ones ≡ zeros = law marked ones 1 [] one_page [] visited tt ∙ no_root in absurd cc
