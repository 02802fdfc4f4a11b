use Rattle.std.proofs.Common.{◌∙◌}
use Rattle.warg_protobuf.specs.MapInclusionProof.{proof_view}
use Rattle.warg_map.specs.Messages.{proof_fault}
use Rattle.warg_protobuf.proofs.ForCallers.{no_fault, fault_after, written_more}
use Rattle.warg_bundle.proofs.map.proof_bundle.messages.Goals as goal

pub proofs-preserved : goal.proofs-preserved
proofs-preserved g c = record {
  written = written_more proof_view c.args.proofs.now c.proofs.proof-index c.proofs.messages.items _
      c.push.new.self.items c.proof-item.result c.proofs-test.true c.proof-item.is
      c.in_ok-to_message.ensures.ok c.in_ok-push.ensures.items c.proofs.invariant.written;
  fault = c.proofs.invariant.fault ∙ fault_after proof_fault c.args.proofs.now c.proofs.proof-index c.proof-item.result
      c.proofs-test.true c.proof-item.is
      (rw c.in_ok-to_message.ensures.ok at (no_fault _ _ _ c.in_ok-to_message.ensures.again).0);
}
