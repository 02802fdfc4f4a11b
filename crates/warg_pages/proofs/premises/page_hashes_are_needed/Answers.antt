use Rattle.std.proofs.Common.{inl, inr, [], refl, ◌∙◌, arith}
use Rattle.warg_pages.proofs.PremiseLemmas.{fives, with_both, both_page, both_digest, both_apart, both_differ, empty_page, empty_digest}
use Rattle.warg_pages.proofs.premises.page_hashes_are_needed.Goals as goal

pub returns : goal.returns
returns c = λ law. elim (law fives [] [] 0 with_both (omega arith) refl both_page (both_digest ∙ empty_digest fives)) [
  | inl same ↦
      both_differ (rw (empty_page fives) at same)
  | inr c ↦ let at =
      rw (empty_page fives) at c in
      both_apart at.first at.second at.placed at.collide
]
