use Rattle.std.proofs.Common.{[], ◌∷◌, refl}
use Rattle.warg_crypto.specs.Tree.{leaf_digest}
use Rattle.warg_crypto.proofs.ForCallers.{marked, marked_hashes}
use Rattle.warg_claims.proofs.BundlePremiseLemmas.{marks_apart, not_entry, only_bytes, only_proof, only_read, only_shown, first_node}
use Rattle.warg_claims.proofs.premises.inclusion_root_is_needed.Goals as goal

pub returns : goal.returns
returns c =
    λ law. marks_apart (law marked only_bytes 0 (1 ∷ [])
    (leaf_digest marked (1 ∷ [])) only_proof first_node ([] ∷ []) marked_hashes (only_shown marked (1 ∷ [])) only_read
    refl not_entry)
