use Rattle.warg_protobuf.proofs.Writing.{encoded}
use Rattle.warg_protobuf.proofs.RoundTrips.{logs_again}
use Rattle.warg_protobuf.proofs.log_proof_bundle.LogProofBundle.encode.Goals as goal

pub returns : goal.returns
returns g c = encoded _ _ _ logs_again _ _ c.encode_message.ensures.written c.encode_message.ensures.fits
    c.encode_message.ensures.short
