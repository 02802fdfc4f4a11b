-- The message `HashEntry`.
use Rattle.std.specs.Prelude.{ℕ, ◌^◌, ◌<◌, List, [], ◌∷◌, ◌++◌}
use Rattle.warg_protobuf.specs.declared.log_proof_bundle.HashEntry.{HashEntry}
use Rattle.warg_protobuf.specs.Field.{Field}
use Rattle.warg_protobuf.specs.Schema.{Table, Schema, uint32, bytes, uint32_in, bytes_in, each, value, values, last_of}
use Rattle.warg_protobuf.specs.Written.{uint32_fields, bytes_fields}

-- A digest and the number of its node.
pub record Entry : Type 0 where
  pub index : ℕ
  pub hash : List ℕ

-- An entry without where it lies in memory.
abbrev pub entry_view : {A : Type 0} → HashEntry A → Entry
entry_view e = record { index = e.index; hash = e.hash.items }

-- The fields of a `HashEntry` (proto3).
abbrev pub entry_table : Table
entry_table = (1, uint32) ∷ (2, bytes) ∷ []

-- What the fields of a `HashEntry` say: the last of each (proto3 encoding, "Last One Wins").
unfoldable pub entry_schema : Schema Entry
entry_schema = record {
  table = entry_table;
  message = λ fs. record {
    index = last_of 0 (values 1 (each uint32_in) fs);
    hash = last_of [] (values 2 (each bytes_in) fs);
  };
}

-- An entry with one field more, as the reading loop takes it in.
unfoldable pub entry_add : Entry → Field → Entry
entry_add m f = record {
  index = last_of m.index (value 1 (each uint32_in) f);
  hash = last_of m.hash (value 2 (each bytes_in) f);
}

-- The fields that are written of an entry.
unfoldable pub entry_fields : Entry → List Field
entry_fields m = uint32_fields 1 m.index ++ bytes_fields 2 m.hash

-- An entry that a program can hold.
pub record EntryFits (m : Entry) : Type 0 where
  pub index : m.index < 2 ^ 32
