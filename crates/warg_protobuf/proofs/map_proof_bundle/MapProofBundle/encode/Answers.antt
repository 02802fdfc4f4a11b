use Rattle.warg_protobuf.proofs.Writing.{encoded}
use Rattle.warg_protobuf.proofs.RoundTrips.{maps_again}
use Rattle.warg_protobuf.proofs.map_proof_bundle.MapProofBundle.encode.Goals as goal

pub returns : goal.returns
returns g c = encoded _ _ _ maps_again _ _ c.encode_message.ensures.written c.encode_message.ensures.fits
    c.encode_message.ensures.short
