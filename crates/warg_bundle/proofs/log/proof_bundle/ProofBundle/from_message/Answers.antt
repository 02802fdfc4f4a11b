use Rattle.std.proofs.Common.{refl, inl, inr, ⊎_elim}
use Rattle.std.proofs.lemmas.List.{map-id}
use Rattle.std.proofs.lemmas.Result.{err_from_is_err_and}
use Rattle.std.proofs.lemmas.Simd.{map-map}
use Rattle.warg_bundle.proofs.BundleLemmas.{done_not_wire, refused_not_wire, err_again}
use Rattle.warg_bundle.proofs.log.proof_bundle.ProofBundle.from_message.Goals as goal

pub returns-in_err-hashes : goal.returns-in_err-hashes
returns-in_err-hashes g c =
    let p = err_from_is_err_and c.from_residual.result c.from_residual.ensures.1 in
    rw (p.1, p.2) (record {
      exact = ⊎_elim (λ none. inl none) (λ bad. inr (rw (rw c.as_slice.ensures.value at bad) refl))
          c.in_err-hashes.ensures.fault;
      message = tt;
      wire = λ e bad. c.in_err-hashes.ensures.wire e (err_again _ _ _ _ refl refl bad);
    })

pub returns-in_err-included_nodes : goal.returns-in_err-included_nodes
returns-in_err-included_nodes g c =
    let p = err_from_is_err_and c.from_residual-in_err-included_nodes.result
    c.from_residual-in_err-included_nodes.ensures.1 in
    rw (p.1, p.2) (record { exact = inl refl; message = tt; wire = λ e bad. absurd (refused_not_wire _ e refl bad) })

pub invariant_of-result : goal.invariant_of-result
invariant_of-result g c = rw c.from.ensures c.in_ok-hashes.ensures.ascending

pub returns : goal.returns
returns g c =
    let nodes = c.in_ok-included_nodes.ensures in
    let good = rw c.as_slice.ensures.value at c.in_ok-hashes.ensures.good in
    record {
      exact = rw (
        good,
        nodes,
        c.from.ensures,
        c.in_ok-hashes.ensures.ok,
        c.as_slice.ensures.value,
        c.as_slice-2.ensures.value,
      ) refl;
      message = rw (
        nodes,
        c.from.ensures,
        c.in_ok-hashes.ensures.ok,
        c.as_slice.ensures.value,
        c.as_slice-2.ensures.value,
        map-map,
        map-id,
        map-map,
        map-id,
      ) refl;
      wire = λ e bad. done_not_wire _ e bad;
    }
