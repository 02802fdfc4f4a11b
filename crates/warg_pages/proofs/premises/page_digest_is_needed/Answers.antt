use Rattle.std.proofs.Common.{inl, inr, [], refl, arith}
use Rattle.warg_crypto.proofs.ForCallers.{marked, marked_hashes}
use Rattle.warg_pages.proofs.PremiseLemmas.{with_ones, ones_page, ones_apart, ones_differ, empty_page}
use Rattle.warg_pages.proofs.premises.page_digest_is_needed.Goals as goal

pub returns : goal.returns
returns c = λ law. elim (law marked [] [] 0 with_ones marked_hashes (omega arith) refl ones_page) [
  | inl same ↦
      ones_differ 0 (rw (empty_page marked) at same)
  | inr c ↦ let at =
      rw (empty_page marked) at c in ones_apart 0 at.first at.second at.placed at.collide
]
