-- The message `MapProofBundle`.
use Rattle.std.specs.Prelude.{ℕ, List, [], ◌∷◌, ◌++◌, map, Option}
use Rattle.warg_protobuf.specs.declared.map_proof_bundle.MapProofBundle.{MapProofBundle}
use Rattle.warg_protobuf.specs.Field.{Field}
use Rattle.warg_protobuf.specs.Schema.{Table, Schema, message, message_in, each, value, values}
use Rattle.warg_protobuf.specs.Written.{message_fields, fields_bytes}
use Rattle.warg_protobuf.specs.MapInclusionProof.{proof_view, proof_schema, proof_fields}

-- Proofs of keys that a map holds, and of keys that it doesn't hold.
pub record MapBundle : Type 0 where
  pub proofs : List (List (Option (List ℕ)))
  pub absences : List (List (Option (List ℕ)))

-- A bundle without where it lies in memory.
abbrev pub map_view : {A : Type 0} → MapProofBundle A → MapBundle
map_view b = record { proofs = map proof_view b.proofs.items; absences = map proof_view b.absences.items }

-- The fields of a `MapProofBundle` (proto3).
abbrev pub map_table : Table
map_table = (1, message proof_schema) ∷ (2, message proof_schema) ∷ []

-- What the fields of a `MapProofBundle` say: all of each list in order (proto3 encoding).
unfoldable pub map_schema : Schema MapBundle
map_schema = record {
  table = map_table;
  message = λ fs. record {
    proofs = values 1 (each (message_in proof_schema)) fs;
    absences = values 2 (each (message_in proof_schema)) fs;
  };
}

-- A bundle with one field more, as the reading loop takes it in.
unfoldable pub map_add : MapBundle → Field → MapBundle
map_add m f = record {
  proofs = m.proofs ++ value 1 (each (message_in proof_schema)) f;
  absences = m.absences ++ value 2 (each (message_in proof_schema)) f;
}

-- The fields that are written of a bundle.
unfoldable pub map_fields : MapBundle → List Field
map_fields m = message_fields 1 proof_fields m.proofs ++ message_fields 2 proof_fields m.absences

-- The one written form of a bundle.
abbrev pub map_bytes : MapBundle → List ℕ
map_bytes m = fields_bytes (map_fields m)
