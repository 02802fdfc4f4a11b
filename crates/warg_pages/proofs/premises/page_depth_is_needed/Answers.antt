use Rattle.std.proofs.Common.{inl, inr}
use Rattle.warg_crypto.proofs.ForCallers.{marked, marked_hashes}
use Rattle.warg_pages.proofs.PremiseLemmas.{with_ones, ones_page, ones_apart, ones_differ, lone_key, lone_bits, lone_page, lone_root, lone_length}
use Rattle.warg_pages.proofs.premises.page_depth_is_needed.Goals as goal

pub returns : goal.returns
returns c = λ law. elim (law marked lone_key lone_bits 32 with_ones marked_hashes lone_length ones_page lone_root) [
  | inl same ↦ ones_differ 32 (rw lone_page at same)
  | inr c ↦
      let at = rw lone_page at
      c in
      ones_apart 32 at.first at.second at.placed at.collide
]
