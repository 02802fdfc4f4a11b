-- Fields that the program lends, without where their bytes lie.
use Rattle.warg_protobuf.specs.declared.field.Field.{Field as LentField}
use Rattle.warg_protobuf.specs.declared.field.Payload.{Payload as LentPayload}
use Rattle.warg_protobuf.specs.declared.field.Payload.TheVariants as lent
use Rattle.warg_protobuf.specs.Field.{Payload, varint, fixed64, delimited, fixed32, Field}

-- A payload that the program lends, without where its bytes lie.
abbrev pub payload_view : LentPayload → Payload
payload_view (lent.Varint n) = varint n
payload_view (lent.Fixed64 bytes) = fixed64 bytes.now
payload_view (lent.Delimited bytes) = delimited bytes.now
payload_view (lent.Fixed32 bytes) = fixed32 bytes.now

-- A field that the program lends, without where its bytes lie.
abbrev pub field_view : LentField → Field
field_view f = record { number = f.number; payload = payload_view f.payload }
