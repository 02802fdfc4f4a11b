use Rattle.warg_crypto.specs.EmptyTrees.{empty_root}
use Rattle.warg_protobuf.specs.MapProofBundle.{MapBundle}
use Rattle.warg_crypto.specs.Tree.{leaf_digest}
use Rattle.warg_bundle.specs.MapBundles.{map_bundle_of}
use Rattle.warg_check.specs.UpdateVerdicts.{leads_both}
use Rattle.warg_check.proofs.ShownLemmas.{absence_hashes}
use Rattle.warg_check.proofs.VerdictLemmas.{true_verdict, both_lead}
use Rattle.warg_check.proofs.laws.insertion_is_shown.Goals as goal

pub returns : goal.returns
returns c = λ H bytes at key value old_root new_root is.
    let t = true_verdict (λ (b : MapBundle). b.absences)
    (λ b. leads_both H key (empty_root H 0) (leaf_digest H value) old_root new_root) at (map_bundle_of bytes) is in
    let both = both_lead H key (empty_root H 0) (leaf_digest H value) old_root new_root t.1 t.3 in
    record {
      bundle = t.0;
      spelled = t.2;
      peers = t.1;
      stands = t.4;
      hashes = absence_hashes bytes t.0 at t.1 t.2 t.4;
      old_is = both.0;
      new_is = both.1;
    }
