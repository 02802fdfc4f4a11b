use Rattle.warg_protobuf.proofs.Writing.{encoded}
use Rattle.warg_protobuf.proofs.RoundTrips.{vecs_again}
use Rattle.warg_protobuf.proofs.vec_log.VecLog.encode.Goals as goal

pub returns : goal.returns
returns g c = encoded _ _ _ vecs_again _ _ c.encode_message.ensures.written c.encode_message.ensures.fits
    c.encode_message.ensures.short
