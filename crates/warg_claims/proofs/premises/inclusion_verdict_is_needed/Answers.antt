use Rattle.std.proofs.Common.{[], ◌∷◌, refl}
use Rattle.warg_crypto.specs.Tree.{leaf_digest}
use Rattle.warg_log.specs.Tree.{root_within}
use Rattle.warg_crypto.proofs.ForCallers.{marked, marked_hashes}
use Rattle.warg_claims.proofs.BundlePremiseLemmas.{marks_apart, not_entry, only_bytes, only_proof, only_read, first_node}
use Rattle.warg_claims.proofs.premises.inclusion_verdict_is_needed.Goals as goal

pub returns : goal.returns
unfolding root_within
returns c =
    λ law. marks_apart (law marked only_bytes 0 (1 ∷ [])
    (leaf_digest marked []) only_proof first_node ([] ∷ []) marked_hashes only_read refl (record {
      root = refl;
      length =
          refl;
    }) not_entry)
