use Rattle.warg_bundle.proofs.BundleEquality.{log_bundles_decide}
use Rattle.warg_bundle.proofs.log.proof_bundle.ProofBundlePartialEq.eq.Goals as goal

pub returns-clause-exact : goal.returns-clause-exact
returns-clause-exact g c = rw c.same_parts.ensures (log_bundles_decide _ _)
