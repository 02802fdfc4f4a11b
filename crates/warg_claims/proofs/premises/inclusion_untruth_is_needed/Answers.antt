use Rattle.std.proofs.Common.{[], ◌∷◌, refl, sym, ◌∙◌}
use Rattle.warg_crypto.specs.Tree.{leaf_digest}
use Rattle.warg_log.specs.Tree.{root_within}
use Rattle.warg_claims.proofs.BundlePremiseLemmas.{at_entry, only_bytes, only_proof, only_read, only_shown, first_node}
use Rattle.warg_claims.proofs.premises.inclusion_untruth_is_needed.Goals as goal

pub returns : goal.returns
unfolding root_within
returns c = λ H law.
    let c = law only_bytes 0 [] (leaf_digest H []) only_proof first_node ([] ∷ [])
    (only_shown H []) only_read refl (record { root = refl; length = refl }) in
    let at = at_entry H [] c.first c.second c.placed in
    c.collide.differ (at.0 ∙ sym at.1)
