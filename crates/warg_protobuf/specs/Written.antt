-- The one written form: fields by ascending number, each in its shortest spelling (this crate's profile of proto3).
use Rattle.std.specs.Prelude.{ℕ, ◌+◌, ◌*◌, List, [], ◌∷◌, ◌++◌, length, map, ◌==◌, if◌then◌else◌}
use Rattle.std.specs.List.{flat_map}
use Rattle.warg_protobuf.specs.Varint.{varint_bytes}
use Rattle.warg_protobuf.specs.Field.{Payload, varint, fixed64, delimited, fixed32, Field, wire_type}

-- The written form of a payload (proto3 encoding).
abbrev pub payload_bytes : Payload → List ℕ
payload_bytes (varint n) = varint_bytes n
payload_bytes (fixed64 inner) = inner
payload_bytes (delimited inner) = varint_bytes (length inner) ++ inner
payload_bytes (fixed32 inner) = inner

-- The written form of a field: its tag and its payload (proto3 encoding).
abbrev pub field_bytes : Field → List ℕ
field_bytes f = varint_bytes (f.number * 8 + wire_type f.payload) ++ payload_bytes f.payload

-- The written form of fields, one after the other (proto3 encoding).
abbrev pub fields_bytes : List Field → List ℕ
fields_bytes fs = flat_map field_bytes fs

-- A number in a field.
abbrev pub varint_field : ℕ → ℕ → Field
varint_field k n = record { number = k; payload = varint n }

-- Bytes in a field.
abbrev pub delimited_field : ℕ → List ℕ → Field
delimited_field k inner = record { number = k; payload = delimited inner }

-- A single number; 0 is not written (proto3, "Default Values").
abbrev pub uint32_fields : ℕ → ℕ → List Field
uint32_fields k n = if n == 0 then [] else (varint_field k n ∷ [])

-- Single bytes without presence; none are not written (proto3, "Default Values").
abbrev pub bytes_fields : ℕ → List ℕ → List Field
bytes_fields k inner = if length inner == 0 then [] else (delimited_field k inner ∷ [])

-- Repeated numbers, packed, zeros among them; an empty list is not written (proto3 encoding, "Packed Repeated Fields").
abbrev pub packed_fields : ℕ → List ℕ → List Field
packed_fields k ns = if length ns == 0 then [] else (delimited_field k (flat_map varint_bytes ns) ∷ [])

-- Repeated bytes, a field for each element, an empty one too (proto3, "Optional and Repeated Elements").
abbrev pub repeated_fields : ℕ → List (List ℕ) → List Field
repeated_fields k inners = map (λ inner. delimited_field k inner) inners

-- Repeated messages, a field for each (proto3, "Optional and Repeated Elements").
abbrev pub message_fields : {M : Type 0} → ℕ → (M → List Field) → List M → List Field
message_fields k fields ms = repeated_fields k (map (λ m. fields_bytes (fields m)) ms)
