use Rattle.warg_protobuf.proofs.Decoders.{other_type}
use Rattle.warg_protobuf.proofs.laws.inner_message_is_delimited.Goals as goal

pub returns : goal.returns
returns c = record { hash_entry = other_type _; map_proof = other_type _; optional_hash = other_type _ }
