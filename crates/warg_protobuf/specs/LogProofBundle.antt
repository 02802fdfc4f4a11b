-- The message `LogProofBundle`.
use Rattle.std.specs.Prelude.{ℕ, ◌^◌, ◌<◌, List, [], ◌∷◌, ◌++◌, map, All}
use Rattle.warg_protobuf.specs.declared.log_proof_bundle.LogProofBundle.{LogProofBundle}
use Rattle.warg_protobuf.specs.Field.{Field}
use Rattle.warg_protobuf.specs.Schema.{Table, Schema, uint32, uint32s, message, uint32_in, uint32s_in, message_in, each, value, values, last_of}
use Rattle.warg_protobuf.specs.Written.{uint32_fields, packed_fields, message_fields, fields_bytes}
use Rattle.warg_protobuf.specs.HashEntry.{Entry, entry_view, entry_schema, entry_fields, EntryFits}

-- Proofs of a log, and the digests that they need.
pub record LogBundle : Type 0 where
  pub log_length : ℕ
  pub consistent_lengths : List ℕ
  pub included_indices : List ℕ
  pub hashes : List Entry

-- A bundle without where it lies in memory.
abbrev pub log_view : {A : Type 0} → LogProofBundle A → LogBundle
log_view b = record {
  log_length = b.log_length;
  consistent_lengths = b.consistent_lengths.items;
  included_indices = b.included_indices.items;
  hashes = map entry_view b.hashes.items;
}

-- The fields of a `LogProofBundle` (proto3).
abbrev pub log_table : Table
log_table = (1, uint32) ∷ (2, uint32s) ∷ (3, uint32s) ∷ (4, message entry_schema) ∷ []

-- What the fields of a `LogProofBundle` say: the last length, all of each list in order (proto3 encoding).
unfoldable pub log_schema : Schema LogBundle
log_schema = record {
  table = log_table;
  message = λ fs. record {
    log_length = last_of 0 (values 1 (each uint32_in) fs);
    consistent_lengths = values 2 uint32s_in fs;
    included_indices = values 3 uint32s_in fs;
    hashes = values 4 (each (message_in entry_schema)) fs;
  };
}

-- A bundle with one field more, as the reading loop takes it in.
unfoldable pub log_add : LogBundle → Field → LogBundle
log_add m f = record {
  log_length = last_of m.log_length (value 1 (each uint32_in) f);
  consistent_lengths = m.consistent_lengths ++ value 2 uint32s_in f;
  included_indices = m.included_indices ++ value 3 uint32s_in f;
  hashes = m.hashes ++ value 4 (each (message_in entry_schema)) f;
}

-- The fields that are written of a bundle.
unfoldable pub log_fields : LogBundle → List Field
log_fields m =
    uint32_fields 1 m.log_length ++
    packed_fields 2 m.consistent_lengths ++
    packed_fields 3 m.included_indices ++
    message_fields 4 entry_fields m.hashes

-- The one written form of a bundle.
abbrev pub log_bytes : LogBundle → List ℕ
log_bytes m = fields_bytes (log_fields m)

-- A bundle that a program can hold.
pub record LogFits (m : LogBundle) : Type 0 where
  pub log_length : m.log_length < 2 ^ 32
  pub consistent_lengths : All (λ n. n < 2 ^ 32) m.consistent_lengths
  pub included_indices : All (λ n. n < 2 ^ 32) m.included_indices
  pub hashes : All EntryFits m.hashes
