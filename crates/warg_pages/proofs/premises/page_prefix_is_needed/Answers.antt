use Rattle.std.proofs.Common.{inl, inr, [], arith}
use Rattle.warg_crypto.proofs.ForCallers.{marked, marked_hashes}
use Rattle.warg_pages.proofs.PremiseLemmas.{lone_key, no_page, short_root, top_differs, top_apart}
use Rattle.warg_pages.proofs.premises.page_prefix_is_needed.Goals as goal

pub returns : goal.returns
returns c = λ law. elim (law marked lone_key [] 31 [] marked_hashes (omega arith) no_page short_root) [
  | inl same ↦ top_differs same
  | inr collision ↦ top_apart collision
]
