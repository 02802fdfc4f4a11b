-- The message `VecLog`.
use Rattle.std.specs.Prelude.{ℕ, ◌^◌, ◌<◌, List, [], ◌∷◌, ◌++◌}
use Rattle.warg_protobuf.specs.declared.vec_log.VecLog.{VecLog}
use Rattle.warg_protobuf.specs.Field.{Field}
use Rattle.warg_protobuf.specs.Schema.{Table, Schema, uint32, bytes, uint32_in, bytes_in, each, value, values, last_of}
use Rattle.warg_protobuf.specs.Written.{uint32_fields, repeated_fields, fields_bytes}

-- A log kept as the digests of its nodes.
pub record VecImage : Type 0 where
  pub length : ℕ
  pub tree : List (List ℕ)

-- A log image without where it lies in memory.
abbrev pub vec_view : {A : Type 0} → VecLog A → VecImage
vec_view b = record { length = b.length; tree = b.tree.items }

-- The fields of a `VecLog` (proto3).
abbrev pub vec_table : Table
vec_table = (1, uint32) ∷ (2, bytes) ∷ []

-- What the fields of a `VecLog` say: the last length, all digests in order (proto3 encoding).
unfoldable pub vec_schema : Schema VecImage
vec_schema = record {
  table = vec_table;
  message = λ fs. record {
    length = last_of 0 (values 1 (each uint32_in) fs);
    tree = values 2 (each bytes_in) fs;
  };
}

-- A log image with one field more, as the reading loop takes it in.
unfoldable pub vec_add : VecImage → Field → VecImage
vec_add m f = record {
  length = last_of m.length (value 1 (each uint32_in) f);
  tree = m.tree ++ value 2 (each bytes_in) f;
}

-- The fields that are written of a log image.
unfoldable pub vec_fields : VecImage → List Field
vec_fields m = uint32_fields 1 m.length ++ repeated_fields 2 m.tree

-- The one written form of a log image.
abbrev pub vec_bytes : VecImage → List ℕ
vec_bytes m = fields_bytes (vec_fields m)

-- A log image that a program can hold.
pub record VecFits (m : VecImage) : Type 0 where
  pub length : m.length < 2 ^ 32
