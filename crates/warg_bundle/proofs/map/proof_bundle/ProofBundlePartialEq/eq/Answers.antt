use Rattle.warg_bundle.proofs.BundleEquality.{map_bundles_decide}
use Rattle.warg_bundle.proofs.map.proof_bundle.ProofBundlePartialEq.eq.Goals as goal

pub returns-clause-exact : goal.returns-clause-exact
returns-clause-exact g c = rw c.same_lists.ensures (map_bundles_decide _ _)
