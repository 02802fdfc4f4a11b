-- Map bundles: what messages and bytes are read as. A bundle's message is that of its proofs and absences, so the
-- value that a message holds is the message itself, if it has no fault.
use Rattle.std.specs.Prelude.{ℕ, Bool, List, Option, Result}
use Rattle.std.specs.Ordering.{on, eq_of_both}
use Rattle.std.specs.Cmp.Lexicographic.{pointwise}
use Rattle.warg_protobuf.specs.MapProofBundle.{MapBundle, map_schema}
use Rattle.warg_protobuf.specs.Schema.{message_of}
use Rattle.warg_protobuf.specs.declared.value_error.DecodeError.{DecodeError}
use Rattle.warg_protobuf.specs.Decoding.{held_in, unless, earlier, first_fault}
use Rattle.warg_map.specs.Messages.{proof_fault, same_peers}

-- The first fault of a bundle: that of its proofs in order, and then that of its absences.
abbrev pub bundle_fault : MapBundle → Option DecodeError
bundle_fault b = earlier (first_fault proof_fault b.proofs) (first_fault proof_fault b.absences)

-- The bundle that a message holds, or its first fault.
abbrev pub map_bundle_in : MapBundle → Result MapBundle DecodeError
map_bundle_in b = unless (bundle_fault b) b

-- The bundle that bytes spell, or their first fault: that of the message (proto3 encoding), and then that of
-- its contents.
abbrev pub map_bundle_of : List ℕ → Result MapBundle DecodeError
map_bundle_of bytes = held_in map_bundle_in (message_of map_schema bytes)

-- Whether two bundles have the same proofs and the same absences, each in order.
abbrev pub same_map_bundle : MapBundle → MapBundle → Bool
same_map_bundle = eq_of_both (on (λ (b : MapBundle). b.proofs) (pointwise same_peers)) (on (λ (b : MapBundle). b.absences) (pointwise same_peers))
