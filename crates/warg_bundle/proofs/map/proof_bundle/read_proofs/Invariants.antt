use Rattle.std.proofs.Common.{◌≡◌, ◌++◌, map}
use Rattle.std.specs.Vec.Iter.{into_iter_items}
use Rattle.warg_protobuf.specs.MapInclusionProof.{proof_view}
use Rattle.warg_protobuf.specs.Decoding.{first_fault}
use Rattle.warg_map.specs.Messages.{proof_fault}
use Rattle.warg_bundle.proofs.map.proof_bundle.read_proofs.Given as goal

abbrev pub invariant-messages : goal.invariant-messages
invariant-messages g l = record {
  can : (goal.iterator-messages g).can_next l.message-iterator;
  ends : (goal.iterator-messages g).is_finite l.message-iterator;
  read : l.proofs.items ++ map proof_view (into_iter_items l.message-iterator) ≡ map proof_view l.fn.messages.items;
  fault : first_fault proof_fault (map proof_view l.fn.messages.items) ≡ first_fault proof_fault
      (map proof_view (into_iter_items l.message-iterator));
}
