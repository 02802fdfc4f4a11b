use Rattle.std.proofs.Common.{[], ◌∷◌, refl}
use Rattle.warg_log.specs.Tree.{root_within}
use Rattle.warg_crypto.proofs.ForCallers.{marked, marked_hashes, zeros}
use Rattle.warg_claims.proofs.BundlePremiseLemmas.{growth_bytes, one_growth, growth_read, growth_shown, entries_apart}
use Rattle.warg_claims.proofs.premises.extension_roots_are_needed.Goals as goal

pub returns : goal.returns
unfolding root_within
returns c = λ law.
    entries_apart _ (law marked growth_bytes 0 zeros zeros one_growth 1 ([] ∷ [])
    ((1 ∷ []) ∷ []) marked_hashes growth_shown
    growth_read refl (λ is. absurd cc))
