use Rattle.std.proofs.lemmas.Result.{IfOk-weaker}
use Rattle.warg_map.specs.Sparse.{pair_bytes}
use Rattle.warg_witness.specs.MapClaims.{IsKeyMet}
use Rattle.warg_witness.proofs.AgreementLemmas.{update_found}
use Rattle.warg_witness.proofs.map.update.witness_update.Goals as goal

pub returns : goal.returns
returns g c =
    let met = rw (c.in-Some.is, c.peers.ensures.value) at c.in_ok-met.ensures in
    let is : IsKeyMet g.D.SupportedDigest.digest c.args.proof.now (g.K.VisitBytes.bytes c.args.key.now)
    (g.V.VisitBytes.bytes c.args.old_value.now)
    (pair_bytes g.K.VisitBytes.bytes g.V.VisitBytes.bytes c.args.insertions.now) = met.1.met in
    record {
      found = IfOk-weaker c.find_update.result _ _
          (update_found (g.V.VisitBytes.bytes c.args.new_value.now) c.in-Some.met.divergence met.1)
          c.find_update.ensures;
    }
