use Rattle.std.proofs.Common.{Err}
use Rattle.warg_protobuf.specs.Schema.{message_in}
use Rattle.warg_protobuf.proofs.Decoders.{message_is}
use Rattle.warg_protobuf.proofs.laws.inner_fault_is_met.Goals as goal

pub returns : goal.returns
unfolding message_in
returns c = record {
  hash_entry = λ bytes e. message_is _ bytes (Err e);
  map_proof = λ bytes e. message_is _ bytes (Err e);
  optional_hash = λ bytes e. message_is _ bytes (Err e);
}
