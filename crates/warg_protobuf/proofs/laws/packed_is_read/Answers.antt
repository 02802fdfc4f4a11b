use Rattle.std.proofs.Common.{Ok, Err}
use Rattle.warg_protobuf.proofs.Packed.{packed_is}
use Rattle.warg_protobuf.proofs.laws.packed_is_read.Goals as goal

pub returns : goal.returns
returns c = record { numbers = λ bytes ns. packed_is bytes (Ok ns); fault = λ bytes e. packed_is bytes (Err e) }
