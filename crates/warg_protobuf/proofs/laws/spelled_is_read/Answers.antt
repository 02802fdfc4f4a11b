use Rattle.std.proofs.Common.{Ok}
use Rattle.warg_protobuf.proofs.Decoders.{message_is}
use Rattle.warg_protobuf.proofs.laws.spelled_is_read.Goals as goal

pub returns : goal.returns
returns c = record {
  log_bundle = λ bytes m. message_is _ bytes (Ok m);
  map_bundle = λ bytes m. message_is _ bytes (Ok m);
  stack_log = λ bytes m. message_is _ bytes (Ok m);
  vec_log = λ bytes m. message_is _ bytes (Ok m);
  hash_entry = λ bytes m. message_is _ bytes (Ok m);
  map_proof = λ bytes m. message_is _ bytes (Ok m);
  optional_hash = λ bytes m. message_is _ bytes (Ok m);
}
