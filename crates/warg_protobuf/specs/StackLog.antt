-- The message `StackLog`.
use Rattle.std.specs.Prelude.{ℕ, ◌^◌, ◌<◌, List, [], ◌∷◌, ◌++◌, map, All}
use Rattle.warg_protobuf.specs.declared.stack_log.StackLog.{StackLog}
use Rattle.warg_protobuf.specs.Field.{Field}
use Rattle.warg_protobuf.specs.Schema.{Table, Schema, uint32, message, uint32_in, message_in, each, value, values, last_of}
use Rattle.warg_protobuf.specs.Written.{uint32_fields, message_fields, fields_bytes}
use Rattle.warg_protobuf.specs.HashEntry.{Entry, entry_view, entry_schema, entry_fields, EntryFits}

-- A log kept as its balanced roots.
pub record StackImage : Type 0 where
  pub length : ℕ
  pub stack : List Entry

-- A log image without where it lies in memory.
abbrev pub stack_view : {A : Type 0} → StackLog A → StackImage
stack_view b = record { length = b.length; stack = map entry_view b.stack.items }

-- The fields of a `StackLog` (proto3).
abbrev pub stack_table : Table
stack_table = (1, uint32) ∷ (2, message entry_schema) ∷ []

-- What the fields of a `StackLog` say: the last length, all entries in order (proto3 encoding).
unfoldable pub stack_schema : Schema StackImage
stack_schema = record {
  table = stack_table;
  message = λ fs. record {
    length = last_of 0 (values 1 (each uint32_in) fs);
    stack = values 2 (each (message_in entry_schema)) fs;
  };
}

-- A log image with one field more, as the reading loop takes it in.
unfoldable pub stack_add : StackImage → Field → StackImage
stack_add m f = record {
  length = last_of m.length (value 1 (each uint32_in) f);
  stack = m.stack ++ value 2 (each (message_in entry_schema)) f;
}

-- The fields that are written of a log image.
unfoldable pub stack_fields : StackImage → List Field
stack_fields m = uint32_fields 1 m.length ++ message_fields 2 entry_fields m.stack

-- The one written form of a log image.
abbrev pub stack_bytes : StackImage → List ℕ
stack_bytes m = fields_bytes (stack_fields m)

-- A log image that a program can hold.
pub record StackFits (m : StackImage) : Type 0 where
  pub length : m.length < 2 ^ 32
  pub stack : All EntryFits m.stack
