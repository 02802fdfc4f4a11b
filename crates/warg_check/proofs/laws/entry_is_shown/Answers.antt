use Rattle.std.proofs.Common.{◌≡◌, ℕ, ◌==◌, ◌&&◌, ◌*◌, ◌∷◌, Ok, subst}
use Rattle.std.proofs.lemmas.Bool.{and_parts, eqb-true}
use Rattle.warg_log.specs.Claims.{InclusionClaim}
use Rattle.warg_log.specs.Inclusion.{inclusion}
use Rattle.warg_log.specs.Sparse.{held_digest}
use Rattle.warg_bundle.specs.LogBundles.{Bundle, bundle_of}
use Rattle.warg_check.specs.Verdicts.{includes}
use Rattle.warg_check.specs.CheckpointVerdicts.{shows_entry, is_leaf_at}
use Rattle.warg_check.proofs.ShownLemmas.{log_hashes}
use Rattle.warg_check.proofs.VerdictLemmas.{true_verdict, root_is}
use Rattle.warg_check.proofs.laws.entry_is_shown.Goals as goal

pub returns : goal.returns
returns c = λ H bytes at index value n root is.
    let t = true_verdict (λ (b : Bundle). b.included_nodes) (shows_entry H index value n root) at
    (bundle_of bytes) is in
    let leaf = and_parts (is_leaf_at index t.1) (t.0.log_length == n && includes H value root t.0 t.1) t.3 in
    let length = and_parts (t.0.log_length == n) (includes H value root t.0 t.1) leaf.1 in
    let claim : ℕ → ℕ → InclusionClaim = λ node k. record { leaf = record { 0 = node }; log_length = k } in
    let Leads : ℕ → ℕ → Type 0 = λ node k. inclusion H (held_digest t.0.hashes) (claim node k) (H (0 ∷ value))
    ≡ Ok root in
    record {
      bundle = t.0;
      spelled = t.2;
      hashes = log_hashes bytes t.0 t.2;
      is = subst (λ node. Leads node n) (eqb-true t.1.0 (2 * index) leaf.0)
          (subst (λ k. Leads t.1.0 k) (eqb-true t.0.log_length n length.0) (root_is root _ length.1));
    }
