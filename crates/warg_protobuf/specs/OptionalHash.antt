-- The message `OptionalHash`.
use Rattle.std.specs.Prelude.{ℕ, List, [], ◌∷◌, map, Option, Some, None, Vec}
use Rattle.warg_protobuf.specs.declared.optional_hash.OptionalHash.{OptionalHash}
use Rattle.warg_protobuf.specs.Field.{Field}
use Rattle.warg_protobuf.specs.Schema.{Table, Schema, bytes, bytes_in, each, value, values, last_of}
use Rattle.warg_protobuf.specs.Written.{delimited_field}

-- A list that may be absent, without where it lies in memory.
abbrev pub items_of : {X A : Type 0} → Option (Vec X A) → Option (List X)
items_of None = None
items_of (Some v) = Some v.items

-- A digest that may be absent, without where it lies in memory.
abbrev pub hash_view : {A : Type 0} → OptionalHash A → Option (List ℕ)
hash_view m = items_of m.hash

-- The fields of an `OptionalHash` (proto3).
abbrev pub hash_table : Table
hash_table = (1, bytes) ∷ []

-- What the fields of an `OptionalHash` say: the last one, or that none came (proto3, "Field Presence").
unfoldable pub hash_schema : Schema (Option (List ℕ))
hash_schema = record {
  table = hash_table;
  message = λ fs. last_of None (map (λ h. Some h) (values 1 (each bytes_in) fs));
}

-- A digest that may be absent, with one field more, as the reading loop takes it in.
unfoldable pub hash_add : Option (List ℕ) → Field → Option (List ℕ)
hash_add m f = last_of m (map (λ h. Some h) (value 1 (each bytes_in) f))

-- The fields that are written of a digest that may be absent: an empty one is written too (proto3, "Field Presence").
abbrev pub hash_fields : Option (List ℕ) → List Field
hash_fields None = []
hash_fields (Some h) = delimited_field 1 h ∷ []
