use Rattle.std.proofs.Common.{◌≡◌, map, take, drop}
use Rattle.warg_protobuf.specs.OptionalHash.{hash_view}
use Rattle.warg_protobuf.specs.Decoding.{first_fault}
use Rattle.warg_map.specs.Messages.{peer_fault}
use Rattle.warg_map.proofs.proof.message.optional_hashes.Given as goal

abbrev pub invariant-peers : goal.invariant-peers
invariant-peers g l = record {
  written : map hash_view l.hashes.items ≡ take l.peer-index l.peers;
  fault : first_fault peer_fault l.peers ≡ first_fault peer_fault (drop l.peer-index l.peers);
}
