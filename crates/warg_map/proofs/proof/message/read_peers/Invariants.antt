use Rattle.std.proofs.Common.{◌≡◌, ◌++◌, map}
use Rattle.std.specs.Vec.Iter.{into_iter_items}
use Rattle.warg_protobuf.specs.OptionalHash.{hash_view}
use Rattle.warg_protobuf.specs.Decoding.{first_fault}
use Rattle.warg_map.specs.Messages.{peer_fault}
use Rattle.warg_map.proofs.proof.message.read_peers.Given as goal

abbrev pub invariant-hashes : goal.invariant-hashes
invariant-hashes g l = record {
  can : (goal.iterator-hashes g).can_next l.hash-iterator;
  ends : (goal.iterator-hashes g).is_finite l.hash-iterator;
  read : l.peers.items ++ map hash_view (into_iter_items l.hash-iterator) ≡ map hash_view l.fn.hashes.items;
  fault : first_fault peer_fault (map hash_view l.fn.hashes.items) ≡ first_fault peer_fault
      (map hash_view (into_iter_items l.hash-iterator));
}
