-- What messages of map proofs are read as. A proof's message is the list of its peers, so the value that a message
-- holds is the message itself, if it has no fault.
use Rattle.std.specs.Prelude.{ℕ, Bool, nat_eq, nat_le, if◌then◌else◌, List, length, Option, Some, None, Result}
use Rattle.std.specs.Option.{option_eq}
use Rattle.std.specs.Cmp.Lexicographic.{pointwise}
use Rattle.warg_protobuf.specs.declared.value_error.DecodeError.{DecodeError}
use Rattle.warg_protobuf.specs.declared.value_error.DecodeError.TheVariants.{TooManyPeers}
use Rattle.warg_protobuf.specs.Decoding.{unless, earlier, first_fault, digest_fault}

-- The peers of a proof, from the bottom of the tree to the top.
abbrev pub Peers : Type 0
Peers = List (Option (List ℕ))

-- The fault of a peer: a digest that isn't 32 bytes.
abbrev pub peer_fault : Option (List ℕ) → Option DecodeError
peer_fault None = None
peer_fault (Some digest) = digest_fault digest

-- The first fault of a proof: more than 256 peers, and then that of its peers in order.
abbrev pub proof_fault : Peers → Option DecodeError
proof_fault peers = earlier (if nat_le (length peers) 256 then None else Some TooManyPeers) (first_fault peer_fault peers)

-- The proof that a message holds, or its first fault.
abbrev pub proof_in : Peers → Result Peers DecodeError
proof_in peers = unless (proof_fault peers) peers

-- Whether two proofs have the same peers.
abbrev pub same_peers : Peers → Peers → Bool
same_peers = pointwise (option_eq (pointwise nat_eq))
