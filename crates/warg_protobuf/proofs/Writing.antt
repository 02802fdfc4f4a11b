-- What is written spells its fields, and they say what was written.
use Rattle.std.proofs.Common.{◌≡◌, ℕ, ◌+◌, ◌*◌, ◌^◌, ◌<◌, Bool, false, cond, eqb, List, [], ◌∷◌, ◌++◌, length, Result, Ok, Err, refl, sym, arith}
use Rattle.std.specs.Prelude.{All, IfOk, OnOk, Vec, IsTrue, nat_lt, ◌&&◌}
use Rattle.std.specs.declared.alloc.AllocError.{AllocError}
use Rattle.std.specs.List.{flat_map, AllByRecursion}
use Rattle.std.proofs.lemmas.Grind.{common_steps}
use Rattle.std.proofs.lemmas.List.{length-append}
use Rattle.std.proofs.lemmas.List.Concat.{flat_map-append}
use Rattle.std.proofs.lemmas.List.Elements.{All-head, All-tail}
use Rattle.warg_protobuf.specs.declared.error.WireError.{WireError}
use Rattle.warg_protobuf.specs.Reading.{Check}
use Rattle.warg_protobuf.specs.Varint.{IsVarint, varint_bytes}
use Rattle.warg_protobuf.specs.Field.{Payload, varint, fixed64, delimited, fixed32, Field, wire_type, SpellsPayload, SpellsField, SpellsAll}
use Rattle.warg_protobuf.specs.Schema.{Schema, check_by, packed_uint32s, uint32_in, bytes_in, uint32s_in, uint32, bytes, uint32s, message, message_of, message_in, each, value, values, last_of}
use Rattle.warg_protobuf.specs.Spelled.{IsSpelled, IsEncoded}
use Rattle.warg_protobuf.specs.Written.{payload_bytes, field_bytes, fields_bytes, uint32_fields, bytes_fields, packed_fields, repeated_fields, message_fields}
use Rattle.warg_protobuf.proofs.Varints.{varint_bytes_is}
use Rattle.warg_protobuf.proofs.Fields.{wire_type_small}
use Rattle.warg_protobuf.proofs.Packed.{packed_is}
use Rattle.warg_protobuf.proofs.ForCallers.{all_weaken}
use Rattle.warg_protobuf.proofs.Decoders.{message_met}

-- ---- fields that are written are spelled so

abbrev PayloadFits : Payload → Type 0
PayloadFits (varint n) = n < 2 ^ 64
PayloadFits (fixed64 inner) = length inner ≡ 8
PayloadFits (delimited inner) = Unit {0}
PayloadFits (fixed32 inner) = length inner ≡ 4

-- A field that a tag and a varint can hold, and that checks.
pub record IsWritten {M : Type 0} (schema : Schema M) (f : Field) : Type 0 where
  pub not_zero : 0 < f.number
  pub in_range : f.number < 2 ^ 29
  pub fits : PayloadFits f.payload
  pub checks : check_by schema.table f ≡ Ok tt

-- Fields, each as it is written.
abbrev pub AreWritten : {M : Type 0} → Schema M → List Field → Type 0
AreWritten schema fs = AllByRecursion (IsWritten schema) fs

payload_spelled : (p : Payload) → PayloadFits p → length (payload_bytes p) < 2 ^ 64 → SpellsPayload (payload_bytes p) p
payload_spelled (varint n) fits short = varint_bytes_is n fits
payload_spelled (fixed64 inner) fits short = (refl, fits)
payload_spelled (delimited inner) fits short =
    let l = length-append (varint_bytes (length inner)) inner in
    (varint_bytes (length inner), varint_bytes_is (length inner) (omega arith), refl)
payload_spelled (fixed32 inner) fits short = (refl, fits)

field_spelled : {M : Type 0} (schema : Schema M) (f : Field) → IsWritten schema f → length (field_bytes f) < 2 ^ 64
    → SpellsField (field_bytes f) f
field_spelled schema f is short = grind (
  arith,
  common_steps,
  wire_type_small f.payload,
  payload_spelled f.payload is.fits,
  varint_bytes_is (f.number * 8 + wire_type f.payload),
)

fields_spelled : {M : Type 0} (schema : Schema M) (fs : List Field) → AreWritten schema fs
    → length (fields_bytes fs) < 2 ^ 64 → SpellsAll SpellsField (fields_bytes fs) fs
fields_spelled schema [] are short = refl
fields_spelled schema (f ∷ fs) are short = grind (
  arith,
  common_steps,
  field_spelled schema f are.0,
  fields_spelled schema fs are.1,
)

-- the written form of fields spells what they say
pub written_spelled : {M : Type 0} (schema : Schema M) (fs : List Field) (m : M) → AreWritten schema fs
    → schema.message fs ≡ m → length (fields_bytes fs) < 2 ^ 64 → IsSpelled schema (fields_bytes fs) m
written_spelled schema fs m are says short = record {
  fields = fs;
  spelled = fields_spelled schema fs are short;
  checked = all_weaken (IsWritten schema) (λ f. check_by schema.table f ≡ Ok tt) (λ f is. is.checks) fs are;
  is = sym says;
}

-- ---- parts of a written message

-- The schema has a field of this number, which a tag can hold, and its payload checks so.
abbrev pub HasField : {M : Type 0} → Schema M → ℕ → Check Payload → Type 0
HasField schema k check =
    IsTrue (nat_lt 0 k && nat_lt k (2 ^ 29))
    × ((p : Payload) → check_by schema.table (record { number = k; payload = p }) ≡ check p)

pub field_written : {M : Type 0} (schema : Schema M) (k : ℕ) (check : Check Payload) → HasField schema k check
    → (p : Payload) → PayloadFits p → check p ≡ Ok tt → IsWritten schema (record { number = k; payload = p })
field_written schema k check has p fits good = grind arith

pub uint32_written : {M : Type 0} (schema : Schema M) (k n : ℕ) → HasField schema k uint32 → n < 2 ^ 32
    → AreWritten schema (uint32_fields k n)
unfolding uint32_in
uint32_written schema k n has lt = grind arith

pub bytes_written : {M : Type 0} (schema : Schema M) (k : ℕ) (inner : List ℕ) → HasField schema k bytes
    → AreWritten schema (bytes_fields k inner)
unfolding bytes_in
bytes_written schema k inner has = grind arith

pub repeated_written : {M : Type 0} (schema : Schema M) (k : ℕ) (inners : List (List ℕ)) → HasField schema k bytes
    → AreWritten schema (repeated_fields k inners)
unfolding bytes_in
repeated_written schema k [] has = tt
repeated_written schema k (inner ∷ inners) has = grind (arith, repeated_written schema k inners has)

packed_spelled : (ns : List ℕ) → All (λ n. n < 2 ^ 32) ns → SpellsAll IsVarint (flat_map varint_bytes ns) ns
packed_spelled [] fit = refl
packed_spelled (n ∷ ns) fit = grind (
  arith,
  All-head (λ k. k < 2 ^ 32) n ns fit,
  varint_bytes_is n,
  packed_spelled ns (All-tail (λ k. k < 2 ^ 32) n ns fit),
)

-- packed numbers are read from their written form
packed_again : (ns : List ℕ) → All (λ n. n < 2 ^ 32) ns → packed_uint32s (flat_map varint_bytes ns) ≡ Ok ns
packed_again ns fit = (packed_is (flat_map varint_bytes ns) (Ok ns)).0
    (record { spelled = packed_spelled ns fit; fit = fit })

pub packed_written : {M : Type 0} (schema : Schema M) (k : ℕ) (ns : List ℕ) → HasField schema k uint32s
    → All (λ n. n < 2 ^ 32) ns → AreWritten schema (packed_fields k ns)
unfolding uint32s_in
packed_written schema k ns has fit = grind (arith, packed_again ns fit)

-- ---- values of fields

-- a field of another number holds no values of this one, nor do such fields in a row
pub other_one : {A : Type 0} (k : ℕ) (read : Payload → Result (List A) WireError) (b : Bool) (f : Field)
    → eqb f.number k ≡ false → values k read (cond b [] (f ∷ [])) ≡ []
unfolding values
other_one k read b f ne = grind arith

pub other_repeated : {A : Type 0} (k j : ℕ) (read : Payload → Result (List A) WireError) (inners : List (List ℕ))
    → eqb j k ≡ false → values k read (repeated_fields j inners) ≡ []
unfolding values
other_repeated k j read [] ne = refl
other_repeated k j read (inner ∷ inners) ne = grind (arith, other_repeated k j read inners ne)

pub values-append : {A : Type 0} (k : ℕ) (read : Payload → Result (List A) WireError) (fs gs : List Field)
    → values k read (fs ++ gs) ≡ values k read fs ++ values k read gs
unfolding values
values-append k read fs gs = flat_map-append (value k read) fs gs

pub uint32_value : (k n : ℕ) → n < 2 ^ 32 → last_of 0 (values k (each uint32_in) (uint32_fields k n)) ≡ n
unfolding values last_of uint32_in
uint32_value k n lt = grind arith

pub bytes_value : (k : ℕ) (inner : List ℕ) → last_of [] (values k (each bytes_in) (bytes_fields k inner)) ≡ inner
unfolding values last_of bytes_in
bytes_value k inner = grind (arith, common_steps)

pub packed_value : (k : ℕ) (ns : List ℕ) → All (λ n. n < 2 ^ 32) ns → values k uint32s_in (packed_fields k ns) ≡ ns
unfolding values uint32s_in
packed_value k ns fit = grind (arith, common_steps, packed_again ns fit)

pub repeated_value : (k : ℕ) (inners : List (List ℕ)) → values k (each bytes_in) (repeated_fields k inners) ≡ inners
unfolding values bytes_in
repeated_value k [] = refl
repeated_value k (inner ∷ inners) = grind (arith, repeated_value k inners)

-- ---- messages in a message

-- What is written of a message that a program can hold is read as the same message.
abbrev pub ReadsAgain : {M : Type 0} → Schema M → (M → List Field) → (M → Type 0) → Type 0
ReadsAgain {M} schema fields Fits =
    (m : M) → Fits m → length (fields_bytes (fields m)) < 2 ^ 64 → IsSpelled schema (fields_bytes (fields m)) m

-- Each of these messages is read from its written form.
abbrev pub AllRead : {M : Type 0} → Schema M → (M → List Field) → List M → Type 0
AllRead schema fields ms = AllByRecursion (λ m. message_of schema (fields_bytes (fields m)) ≡ Ok m) ms

pub all_read : {M : Type 0} (schema : Schema M) (fields : M → List Field) (Fits : M → Type 0)
    → ReadsAgain schema fields Fits → (k : ℕ) (ms : List M) → All Fits ms
    → length (fields_bytes (message_fields k fields ms)) < 2 ^ 64 → AllRead schema fields ms
all_read schema fields Fits again k [] fits short = tt
all_read schema fields Fits again k (m ∷ ms) fits short =
    let sizes = simp length-append at short in
    let spelled = again m (All-head Fits m ms fits) (omega arith) in (
      message_met schema (fields_bytes (fields m)) (Ok m) spelled,
      all_read schema fields Fits again k ms
          (All-tail Fits m ms fits) (omega arith),
    )

pub nested_written : {O M : Type 0} (outer : Schema O) (schema : Schema M) (fields : M → List Field) (k : ℕ)
    → HasField outer k (message schema) → (ms : List M) → AllRead schema fields ms
    → AreWritten outer (message_fields k fields ms)
unfolding message_in
nested_written outer schema fields k has [] read = tt
nested_written outer schema fields k has (m ∷ ms) read =
    grind (arith, nested_written outer schema fields k has ms read.1)

pub nested_value : {M : Type 0} (schema : Schema M) (fields : M → List Field) (k : ℕ) (ms : List M)
    → AllRead schema fields ms → values k (each (message_in schema)) (message_fields k fields ms) ≡ ms
unfolding values message_in
nested_value schema fields k [] read = refl
nested_value schema fields k (m ∷ ms) read = grind (arith, nested_value schema fields k ms read.1)

-- ---- what an encoder returns

pub encoded : {A M : Type 0} (schema : Schema M) (fields : M → List Field) (Fits : M → Type 0)
    → ReadsAgain schema fields Fits → (m : M) (r : Result (Vec ℕ A) AllocError)
    → IfOk r (λ v. v.items ≡ fields_bytes (fields m)) → OnOk r (Fits m) → IfOk r (λ v. length v.items < 2 ^ 64)
    → IfOk r (λ v. IsEncoded schema (λ x. fields_bytes (fields x)) m v.items)
encoded schema fields Fits again m (Ok v) is fits short = grind (arith, again m fits, message_met schema v.items (Ok m))
encoded schema fields Fits again m (Err e) is fits short = tt
