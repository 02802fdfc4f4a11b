-- Fields one after the other: each is a tag and a payload (proto3 encoding, "Message Structure").
use Rattle.std.specs.Prelude.{◌≡◌, ℕ, ◌+◌, ◌*◌, ◌/◌, ◌%◌, ◌^◌, ◌<◌, List, [], ◌∷◌, ◌++◌, length, take, drop, Ok, Err, nat_lt, nat_le, ◌==◌, ◌||◌, if◌then◌else◌}
use Rattle.warg_protobuf.specs.declared.error.WireError.TheVariants.{Truncated, BadTag, Group, BadWireType}
use Rattle.warg_protobuf.specs.Reading.{◌>>=◌, Reader}
use Rattle.warg_protobuf.specs.Varint.{IsVarint, varint_at}

-- What stands behind a tag: the wire types VARINT, I64, LEN and I32 (proto3 encoding).
pub data Payload : Type 0 where
  varint : ℕ → Payload
  fixed64 : List ℕ → Payload
  delimited : List ℕ → Payload
  fixed32 : List ℕ → Payload

-- A field number and its payload (proto3 encoding).
pub record Field : Type 0 where
  pub number : ℕ
  pub payload : Payload

-- The number of a payload's wire type (proto3 encoding).
abbrev pub wire_type : Payload → ℕ
wire_type (varint n) = 0
wire_type (fixed64 bytes) = 1
wire_type (delimited bytes) = 2
wire_type (fixed32 bytes) = 5

-- The bytes spell the payload: a varint, eight bytes, a length and that many bytes, or four bytes (proto3 encoding).
abbrev pub SpellsPayload : List ℕ → Payload → Type 0
SpellsPayload bytes (varint n) = IsVarint bytes n
SpellsPayload bytes (fixed64 inner) = (bytes ≡ inner) × (length inner ≡ 8)
SpellsPayload bytes (delimited inner) = (len : List ℕ) × IsVarint len (length inner) × (bytes ≡ len ++ inner)
SpellsPayload bytes (fixed32 inner) = (bytes ≡ inner) × (length inner ≡ 4)

-- The bytes spell the field: the varint `number * 8 + wire type`, and the payload; numbers go from 1 to 2^29 - 1 (proto3 encoding).
pub record SpellsField (bytes : List ℕ) (f : Field) : Type 0 where
  pub tag : List ℕ
  pub payload : List ℕ
  pub tag_spelled : IsVarint tag (f.number * 8 + wire_type f.payload)
  pub payload_spelled : SpellsPayload payload f.payload
  pub has_number : 0 < f.number
  pub in_range : f.number < 2 ^ 29
  pub joined : bytes ≡ tag ++ payload

-- The bytes are the spellings of these things, one after the other, and nothing else (proto3 encoding).
abbrev pub SpellsAll : {X : Type 0} → (List ℕ → X → Type 0) → List ℕ → List X → Type 0
SpellsAll Spells bytes [] = bytes ≡ []
SpellsAll Spells bytes (x ∷ xs) = (first : List ℕ) × (rest : List ℕ) × Spells first x × SpellsAll Spells rest xs × (bytes ≡ first ++ rest)

-- So many bytes at the front, and the bytes after them.
abbrev pub bytes_at : ℕ → Reader (List ℕ)
bytes_at len bytes = if nat_lt (length bytes) len then Err Truncated else Ok (take len bytes, drop len bytes)

-- The payload of a wire type at the front, and the bytes after it; groups are refused (proto3 encoding; the refusals are this crate's).
unfoldable pub payload_at : ℕ → Reader Payload
payload_at kind bytes =
    if kind == 0 then (varint_at bytes >>= λ n. Ok (varint n.0, n.1)) else
    if kind == 1 then (bytes_at 8 bytes >>= λ x. Ok (fixed64 x.0, x.1)) else
    if kind == 2 then (varint_at bytes >>= λ len. bytes_at len.0 len.1 >>= λ x. Ok (delimited x.0, x.1)) else
    if kind == 3 then Err Group else
    if kind == 4 then Err Group else
    if kind == 5 then (bytes_at 4 bytes >>= λ x. Ok (fixed32 x.0, x.1)) else
    Err BadWireType

-- The field at the front, and the bytes after it, or the first fault in it (proto3 encoding; the faults are this crate's).
unfoldable pub field_at : Reader Field
field_at bytes = do
  tag ← varint_at bytes
  if nat_le (2 ^ 32) tag.0 || tag.0 / 8 == 0 then Err BadTag else (do
    payload ← payload_at (tag.0 % 8) tag.1
    Ok (record { number = tag.0 / 8; payload = payload.0 }, payload.1))
