use Rattle.std.proofs.Common.{◌≡◌, [], refl, sym, ◌∙◌}
use Rattle.warg_crypto.proofs.ForCallers.{zeros, ones, marked}
use Rattle.warg_pages.proofs.PremiseLemmas.{lone_key}
use Rattle.warg_pages.proofs.AuditPremises.{key_root, empty_is}
use Rattle.warg_pages.proofs.premises.audited_insertions_are_needed.Goals as goal

pub returns : goal.returns
returns c = λ law. let same : zeros ≡ ones = sym empty_is
    ∙ law marked _ 0 lone_key [] [] (refl, refl) refl
    ∙ key_root in absurd cc
