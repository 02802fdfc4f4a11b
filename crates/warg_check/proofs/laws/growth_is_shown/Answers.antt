use Rattle.std.proofs.Common.{◌==◌, ◌&&◌, subst}
use Rattle.std.proofs.lemmas.Bool.{and_parts, eqb-true}
use Rattle.warg_log.specs.Consistency.{consistency, IsConsistent}
use Rattle.warg_log.specs.Sparse.{held_digest}
use Rattle.warg_bundle.specs.LogBundles.{Bundle, bundle_of}
use Rattle.warg_check.specs.Verdicts.{extends}
use Rattle.warg_check.specs.CheckpointVerdicts.{shows_growth}
use Rattle.warg_log.proofs.ForCallers.{consistency_only}
use Rattle.warg_check.proofs.ShownLemmas.{log_hashes}
use Rattle.warg_check.proofs.VerdictLemmas.{true_verdict, roots_are}
use Rattle.warg_check.proofs.laws.growth_is_shown.Goals as goal

pub returns : goal.returns
returns c = λ H bytes at m old n new is.
    let t = true_verdict (λ (b : Bundle). b.consistent_lengths) (shows_growth H m old n new) at (bundle_of bytes) is in
    let lengths = and_parts (t.1 == m) (t.0.log_length == n && extends H old new t.0 t.1) t.3 in
    let roots = and_parts (t.0.log_length == n) (extends H old new t.0 t.1) lengths.1 in
    let met : IsConsistent H (held_digest t.0.hashes) t.1 t.0.log_length old new =
    consistency_only H (held_digest t.0.hashes) t.1 t.0.log_length old new
    (roots_are old new (consistency H (held_digest t.0.hashes) t.1 t.0.log_length) roots.1) in
    let from : IsConsistent H (held_digest t.0.hashes) m t.0.log_length old new =
    subst (λ k. IsConsistent H (held_digest t.0.hashes) k t.0.log_length old new) (eqb-true t.1 m lengths.0) met in
    record {
      bundle = t.0;
      spelled = t.2;
      hashes = log_hashes bytes t.0 t.2;
      roots = subst (λ k. IsConsistent H (held_digest t.0.hashes) m k old new) (eqb-true t.0.log_length n roots.0)
          from;
    }
