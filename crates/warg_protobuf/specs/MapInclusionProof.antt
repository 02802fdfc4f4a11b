-- The message `MapInclusionProof`.
use Rattle.std.specs.Prelude.{ℕ, List, [], ◌∷◌, ◌++◌, map, Option}
use Rattle.warg_protobuf.specs.declared.map_inclusion_proof.MapInclusionProof.{MapInclusionProof}
use Rattle.warg_protobuf.specs.Field.{Field}
use Rattle.warg_protobuf.specs.Schema.{Table, Schema, message, message_in, each, value, values}
use Rattle.warg_protobuf.specs.Written.{message_fields}
use Rattle.warg_protobuf.specs.OptionalHash.{hash_view, hash_schema, hash_fields}

-- A map proof without where it lies in memory.
abbrev pub proof_view : {A : Type 0} → MapInclusionProof A → List (Option (List ℕ))
proof_view m = map hash_view m.hashes.items

-- The fields of a `MapInclusionProof` (proto3).
abbrev pub proof_table : Table
proof_table = (1, message hash_schema) ∷ []

-- What the fields of a `MapInclusionProof` say: all peers in order (proto3 encoding).
unfoldable pub proof_schema : Schema (List (Option (List ℕ)))
proof_schema = record {
  table = proof_table;
  message = λ fs. values 1 (each (message_in hash_schema)) fs;
}

-- A proof with one field more, as the reading loop takes it in.
unfoldable pub proof_add : List (Option (List ℕ)) → Field → List (Option (List ℕ))
proof_add m f = m ++ value 1 (each (message_in hash_schema)) f

-- The fields that are written of a proof.
unfoldable pub proof_fields : List (Option (List ℕ)) → List Field
proof_fields m = message_fields 1 hash_fields m
