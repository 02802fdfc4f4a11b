use Rattle.warg_protobuf.proofs.Writing.{encoded}
use Rattle.warg_protobuf.proofs.RoundTrips.{stacks_again}
use Rattle.warg_protobuf.proofs.stack_log.StackLog.encode.Goals as goal

pub returns : goal.returns
returns g c = encoded _ _ _ stacks_again _ _ c.encode_message.ensures.written c.encode_message.ensures.fits
    c.encode_message.ensures.short
