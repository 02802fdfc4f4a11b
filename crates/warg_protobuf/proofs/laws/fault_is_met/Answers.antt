use Rattle.std.proofs.Common.{Err}
use Rattle.warg_protobuf.proofs.Decoders.{message_is}
use Rattle.warg_protobuf.proofs.laws.fault_is_met.Goals as goal

pub returns : goal.returns
returns c = record {
  log_bundle = λ bytes e. message_is _ bytes (Err e);
  map_bundle = λ bytes e. message_is _ bytes (Err e);
  stack_log = λ bytes e. message_is _ bytes (Err e);
  vec_log = λ bytes e. message_is _ bytes (Err e);
  hash_entry = λ bytes e. message_is _ bytes (Err e);
  map_proof = λ bytes e. message_is _ bytes (Err e);
  optional_hash = λ bytes e. message_is _ bytes (Err e);
}
