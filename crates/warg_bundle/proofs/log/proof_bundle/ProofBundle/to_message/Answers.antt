use Rattle.std.proofs.Common.{◌∙◌, refl, ap}
use Rattle.std.proofs.lemmas.Result.{err_from_is_err_and}
use Rattle.warg_bundle.specs.LogBundles.{log_bundle_in, NodesFit}
use Rattle.warg_bundle.proofs.BundleLemmas.{bundle_again, done_not_failed, refused_not_large}
use Rattle.warg_bundle.proofs.log.proof_bundle.ProofBundle.to_message.Goals as goal
use Rattle.warg_bundle.proofs.log.proof_bundle.ProofBundle.to_message.Goals.{Else-not-pairs_fit}

pub indices-requires : goal.indices-requires
indices-requires g c = rw (c.as_slice-2.ensures.value, ← c.deref.ensures.value)
    (c.nodes_fit.ensures.0 c.if-not-nodes_fit.false)

pub entries-requires : goal.entries-requires
entries-requires g c = c.pairs_fit.ensures.0 c.if-not-pairs_fit.false

pub returns-clause-ok : goal.returns-clause-ok
returns-clause-ok g c =
    rw (
      ← c.self.view_is,
      c.in_ok-consistent_lengths.ensures.items,
      c.as_slice.ensures.value,
      c.in_ok-included_indices.ensures,
      c.as_slice-2.ensures.value,
      c.in_ok-hashes.ensures.entries,
      c.pairs-pairs.ensures.value,
    ) refl

pub returns-clause-again : goal.returns-clause-again
returns-clause-again g c =
    ap log_bundle_in (returns-clause-ok g c)
    ∙ rw (← c.self.view_is) (bundle_again _ c.pairs-pairs.ensures.ascending
    (rw c.pairs-pairs.ensures.value at c.in_ok-hashes.ensures.lengths))

-- the nodes fit
fits : (g : _) (c : Else-not-pairs_fit g) → NodesFit c.args.self.now
fits g c = (
  rw (← c.self.view_is, ← c.deref.ensures.value) (c.nodes_fit.ensures.0 c.if-not-nodes_fit.false),
  rw (← c.self.view_is, ← c.pairs-pairs.ensures.value) (c.pairs_fit.ensures.0 c.if-not-pairs_fit.false),
)

pub returns-clause-fits : goal.returns-clause-fits
returns-clause-fits g c = fits g (goal.at.returns-clause-fits g c).Else-not-pairs_fit

pub returns-clause-too_large : goal.returns-clause-too_large
returns-clause-too_large g c = (
  (λ e. absurd (done_not_failed _ _ e)),
  (λ no. absurd (no (fits g (goal.at.returns-clause-too_large g c).Else-not-pairs_fit))),
)

pub returns-in_err-consistent_lengths : goal.returns-in_err-consistent_lengths
returns-in_err-consistent_lengths g c =
    let p = err_from_is_err_and c.from_residual.result c.from_residual.ensures.1 in
    rw (p.1, p.2) (record {
      ok = tt;
      again = tt;
      too_large = (
        (λ e. absurd (refused_not_large _ refl e)),
        (λ no. absurd (no (fits g
            (goal.at.returns-in_err-consistent_lengths g c).Else-not-pairs_fit))),
      );
      fits = tt;
    })

pub returns-in_err-included_indices : goal.returns-in_err-included_indices
returns-in_err-included_indices g c =
    let p = err_from_is_err_and c.from_residual-in_err-included_indices.result
    c.from_residual-in_err-included_indices.ensures.1 in
    rw (p.1, p.2) (record {
      ok = tt;
      again = tt;
      too_large = (
        (λ e. absurd (refused_not_large _ refl e)),
        (λ no. absurd (no (fits g (goal.at.returns-in_err-included_indices g c).Else-not-pairs_fit))),
      );
      fits = tt;
    })

pub returns-in_err-hashes : goal.returns-in_err-hashes
returns-in_err-hashes g c =
    let p = err_from_is_err_and c.from_residual-in_err-hashes.result c.from_residual-in_err-hashes.ensures.1 in
    rw (p.1, p.2) (record {
      ok = tt;
      again = tt;
      too_large = (
        (λ e. absurd (refused_not_large _ refl e)),
        (λ no. absurd (no (fits g (goal.at.returns-in_err-hashes g c).Else-not-pairs_fit))),
      );
      fits = tt;
    })
