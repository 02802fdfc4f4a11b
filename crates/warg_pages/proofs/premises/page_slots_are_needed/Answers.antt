use Rattle.std.proofs.Common.{inl, inr, [], refl, ◌∙◌, arith}
use Rattle.warg_pages.proofs.PremiseLemmas.{cut_elsewhere, cut_digest, cut_apart, cut_differs, empty_page, empty_digest}
use Rattle.warg_pages.proofs.premises.page_slots_are_needed.Goals as goal

pub returns : goal.returns
returns c =
    λ H gives law. elim (law [] [] 0 (cut_elsewhere H gives) (omega arith) refl (cut_digest H gives ∙ empty_digest H)) [
      | inl same ↦
          cut_differs H gives (rw (empty_page H) at same)
      | inr c ↦ let at =
          rw (empty_page H) at c in
          cut_apart H gives at.first at.second at.placed at.collide
    ]
