use Rattle.std.proofs.Common.{[], ◌∷◌, refl}
use Rattle.warg_log.specs.Tree.{root_within}
use Rattle.warg_crypto.proofs.ForCallers.{marked, marked_hashes, zeros, ones}
use Rattle.warg_claims.proofs.BundlePremiseLemmas.{growth_bytes, one_growth, growth_read, entries_apart}
use Rattle.warg_claims.proofs.premises.extension_verdict_is_needed.Goals as goal

pub returns : goal.returns
unfolding root_within
returns c = λ law.
    entries_apart _ (law marked growth_bytes 0 zeros ones one_growth 1 ([] ∷ [])
    ((1 ∷ []) ∷ []) marked_hashes growth_read refl
    (record { root = refl; length = refl }) (record { root = refl; length = refl }) (λ is. absurd cc))
