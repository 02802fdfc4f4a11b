-- Messages: which types their fields have, and what the fields together say (proto3 encoding).
use Rattle.std.specs.Prelude.{ℕ, ◌^◌, List, [], ◌∷◌, Result, Ok, Err, nat_lt, ◌==◌, if◌then◌else◌}
use Rattle.std.specs.List.{flat_map}
use Rattle.warg_protobuf.specs.declared.error.WireError.{WireError}
use Rattle.warg_protobuf.specs.declared.error.WireError.TheVariants.{WrongWireType, NumberTooLarge}
use Rattle.warg_protobuf.specs.Reading.{◌>>=◌, Check, outcome, values_read, as_list, all_of}
use Rattle.warg_protobuf.specs.Varint.{varint_at}
use Rattle.warg_protobuf.specs.Field.{Payload, varint, fixed64, delimited, fixed32, Field, field_at}

-- ---- what a payload holds

-- A number as a uint32; a larger one is refused (proto3 cuts it to 32 bits).
abbrev pub as_uint32 : ℕ → Result ℕ WireError
as_uint32 n = if nat_lt n (2 ^ 32) then Ok n else Err NumberTooLarge

-- A number that is a uint32, or its fault.
abbrev pub is_uint32 : Check ℕ
is_uint32 n = outcome (as_uint32 n)

-- The uint32 that a payload holds: a varint (proto3 encoding, "More Integer Types").
unfoldable pub uint32_in : Payload → Result ℕ WireError
uint32_in (varint n) = as_uint32 n
uint32_in (fixed64 bytes) = Err WrongWireType
uint32_in (delimited bytes) = Err WrongWireType
uint32_in (fixed32 bytes) = Err WrongWireType

-- The bytes that a payload holds: a length and that many (proto3 encoding, "Length-Delimited Records").
unfoldable pub bytes_in : Payload → Result (List ℕ) WireError
bytes_in (varint n) = Err WrongWireType
bytes_in (fixed64 bytes) = Err WrongWireType
bytes_in (delimited bytes) = Ok bytes
bytes_in (fixed32 bytes) = Err WrongWireType

-- Packed uint32s: varints one after the other (proto3 encoding, "Packed Repeated Fields").
unfoldable pub packed_uint32s : List ℕ → Result (List ℕ) WireError
packed_uint32s bytes = all_of varint_at is_uint32 bytes

-- The uint32s that a payload of a repeated field holds, one by itself or packed ones (proto3 encoding, "Packed Repeated Fields").
unfoldable pub uint32s_in : Payload → Result (List ℕ) WireError
uint32s_in (varint n) = as_list (as_uint32 n)
uint32s_in (fixed64 bytes) = Err WrongWireType
uint32s_in (delimited bytes) = packed_uint32s bytes
uint32s_in (fixed32 bytes) = Err WrongWireType

-- ---- the fields of a message

-- The field numbers of a message, each with the check of its type.
abbrev pub Table : Type 0
Table = List (ℕ × Check Payload)

-- A field checks by its row; one of unknown number is skipped (proto3, "Unknown Fields").
abbrev pub check_by : Table → Check Field
check_by [] f = Ok tt
check_by (row ∷ table) f = if f.number == row.0 then row.1 f.payload else check_by table f

-- A message type: its table, and what fields that check say together.
pub record Schema (M : Type 0) : Type 0 where
  pub table : Table
  pub message : List Field → M

-- The fields in a message's bytes, or the first fault in them, field by field (proto3 encoding; the faults are this crate's).
abbrev pub fields_of : {M : Type 0} → Schema M → List ℕ → Result (List Field) WireError
fields_of schema bytes = all_of field_at (check_by schema.table) bytes

-- What a message's bytes say, or the first fault in them (proto3 encoding; the faults are this crate's).
unfoldable pub message_of : {M : Type 0} → Schema M → List ℕ → Result M WireError
message_of schema bytes = fields_of schema bytes >>= λ fs. Ok (schema.message fs)

-- The message that a payload holds (proto3 encoding, "Submessages").
unfoldable pub message_in : {M : Type 0} → Schema M → Payload → Result M WireError
message_in schema (varint n) = Err WrongWireType
message_in schema (fixed64 bytes) = Err WrongWireType
message_in schema (delimited bytes) = message_of schema bytes
message_in schema (fixed32 bytes) = Err WrongWireType

-- ---- types in a table

-- A `uint32`, or a `repeated uint32` of which each comes by itself (proto3).
abbrev pub uint32 : Check Payload
uint32 p = outcome (uint32_in p)

-- A `repeated uint32`, packed or not (proto3).
abbrev pub uint32s : Check Payload
uint32s p = outcome (uint32s_in p)

-- `bytes`, or each of `repeated bytes` (proto3).
abbrev pub bytes : Check Payload
bytes p = outcome (bytes_in p)

-- A message, or each of a repeated one (proto3).
abbrev pub message : {M : Type 0} → Schema M → Check Payload
message schema p = outcome (message_in schema p)

-- ---- fields by their number

-- The values in a field of this number, none in another.
abbrev pub value : {A : Type 0} → ℕ → (Payload → Result (List A) WireError) → Field → List A
value k read f = if f.number == k then values_read (read f.payload) else []

-- The values in all fields of this number, in order (proto3, "Optional and Repeated Elements").
unfoldable pub values : {A : Type 0} → ℕ → (Payload → Result (List A) WireError) → List Field → List A
values k read fs = flat_map (value k read) fs

-- A reader of one value, as a reader of several.
abbrev pub each : {A : Type 0} → (Payload → Result A WireError) → Payload → Result (List A) WireError
each read p = as_list (read p)

-- The last of the values, or what stands where none comes (proto3 encoding, "Last One Wins").
unfoldable pub last_of : {A : Type 0} → A → List A → A
last_of default [] = default
last_of default (x ∷ xs) = last_of x xs
