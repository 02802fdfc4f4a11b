use Rattle.std.proofs.Common.{◌<◌, ◌^◌, refl, sym, ◌∙◌, inl, inr, ⊎_elim, arith}
use Rattle.std.proofs.lemmas.Result.{err_from_is_err_and}
use Rattle.warg_protobuf.proofs.ForCallers.{all_weaken}
use Rattle.warg_bundle.proofs.NeededLemmas.{length_good, consistencies_good, bundled_is}
use Rattle.warg_bundle.proofs.log.proof_bundle.ProofBundle.bundle.Goals as goal

pub old_lengths-requires : goal.old_lengths-requires
old_lengths-requires g c =
    let cs = c.as_slice-consistencies.result.now in
    let n = c.in_ok-log_length.log_length in
    let good = length_good cs c.as_slice-inclusions.result.now n (sym c.in_ok-log_length.ensures.value) in
    let fits = c.in_ok-log_length.ensures.fits in
    all_weaken _ (λ p. p.old_length < 2 ^ 32) (λ p q. omega (arith, q.0, q.1, fits)) cs (consistencies_good n cs good.0)

pub returns-in_err-hashes : goal.returns-in_err-hashes
returns-in_err-hashes g c =
    let length_is = sym c.in_ok-log_length.ensures.value in
    let F = g.L.LogData.digest_at c.args.hashes.now in
    let why = c.in_err-hashes.ensures _ length_is in
    let p = err_from_is_err_and c.from_residual-in_err-hashes.result c.from_residual-in_err-hashes.ensures.1 in
    rw (p.1, p.2, ← c.as_slice-consistencies.ensures.value, ← c.as_slice-inclusions.ensures.value)
    (⊎_elim (λ m. inl m) (λ fault. inr
    (bundled_is F c.as_slice-consistencies.result.now c.as_slice-inclusions.result.now c.in_ok-log_length.log_length
    length_is ∙ rw fault refl)) why)
