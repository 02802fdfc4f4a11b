use Rattle.std.proofs.Common.{sym}
use Rattle.std.specs.Cmp.Lexicographic.{same_text}
use Rattle.warg_crypto.specs.Tree.{leaf_digest}
use Rattle.warg_protobuf.specs.MapProofBundle.{MapBundle}
use Rattle.warg_map.specs.Bits.{key_bits}
use Rattle.warg_map.specs.ProofValue.{proof_value}
use Rattle.warg_bundle.specs.MapBundles.{map_bundle_of}
use Rattle.warg_check.specs.Verdicts.{leads}
use Rattle.warg_check.proofs.ShownLemmas.{key_hashes}
use Rattle.warg_check.proofs.VerdictLemmas.{true_verdict}
use Rattle.warg_check.proofs.laws.key_is_shown.Goals as goal

pub returns : goal.returns
returns c = λ H bytes at key value root is.
    let t = true_verdict (λ (b : MapBundle). b.proofs) (λ b. leads H (leaf_digest H value) key root) at
    (map_bundle_of bytes) is in
    record {
      bundle = t.0;
      spelled = t.2;
      peers = t.1;
      stands = t.4;
      hashes = key_hashes bytes t.0 at t.1 t.2 t.4;
      is = same_text (proof_value H t.1 (leaf_digest H value) (key_bits H key)) root (sym t.3);
    }
