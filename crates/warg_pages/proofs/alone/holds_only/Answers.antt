use Rattle.std.proofs.Common.{◌≡◌, List, ℕ, Some, sym, ap, ◌∙◌}
use Rattle.warg_pages.proofs.HashEquality.{hashes_decide}
use Rattle.warg_pages.proofs.LoneSlots.{some_same}
use Rattle.warg_pages.proofs.alone.holds_only.Goals as goal

pub returns-in-Some-lone : goal.returns-in-Some-lone
returns-in-Some-lone g c =
    let there : c.in-Some.slot.now.lone ≡ Some c.in-Some-lone.lone = rw (← c.slot.view_is) c.in-Some-lone.is in
    let key : c.lone.inside.key ≡ c.in-Some-lone.lone.0 = ap (λ (l : List ℕ × List ℕ). l.0) c.lone.view_is in
    let decide = hashes_decide _ _ _ c.eq.ensures in
    rw c.in-Some.is (
      λ t. (c.in-Some-lone.lone.1, there ∙ ap (λ (k : List ℕ). Some (k, c.in-Some-lone.lone.1)) (sym key ∙ decide.0 t)),
      λ h. decide.1 (key ∙ ap (λ (l : List ℕ × List ℕ). l.0) (some_same (sym there ∙ h.1))),
    )
