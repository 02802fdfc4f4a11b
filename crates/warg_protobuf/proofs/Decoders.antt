-- Messages: what reading their bytes gives stands there, and what stands there is read.
use Rattle.std.proofs.Common.{◌≡◌, ◌≢◌, ℕ, List, Result, Ok, Err, refl, subst, arith}
use Rattle.std.specs.Prelude.{◌↔◌}
use Rattle.warg_protobuf.specs.declared.error.WireError.{WireError}
use Rattle.warg_protobuf.specs.declared.error.WireError.TheVariants as errors
use Rattle.warg_protobuf.specs.Reading.{◌>>=◌, Gives}
use Rattle.warg_protobuf.specs.Field.{Payload, Field, wire_type, SpellsField}
use Rattle.warg_protobuf.specs.Faults.{FieldFault}
use Rattle.warg_protobuf.specs.Schema.{Schema, check_by, fields_of, message_of, message_in}
use Rattle.warg_protobuf.specs.Spelled.{IsSpelled, FaultStands, Decodes}
use Rattle.warg_protobuf.proofs.Fields.{fields}
use Rattle.warg_protobuf.proofs.Sequences.{AllStand, all_stand, all_met}

-- The bytes spell the message that was read, or the fault that was met is the first in them.
abbrev pub MessageStands : {M : Type 0} → Schema M → List ℕ → Result M WireError → Type 0
MessageStands schema bytes (Ok m) = IsSpelled schema bytes m
MessageStands schema bytes (Err e) = FaultStands schema bytes e

-- what stands in the bytes, in the words of messages
said : {M : Type 0} (schema : Schema M) (bytes : List ℕ) (r : Result (List Field) WireError)
    → AllStand SpellsField FieldFault (check_by schema.table) bytes r
    → MessageStands schema bytes (r >>= λ fs. Ok (schema.message fs))
said schema bytes r stands = grind arith

-- reading gives what stands in the bytes
pub message_met : {M : Type 0} (schema : Schema M) (bytes : List ℕ) (r : Result M WireError)
    → MessageStands schema bytes r
    → message_of schema bytes ≡ r
unfolding message_of
message_met schema bytes (Ok m) s =
    rw (all_met (check_by schema.table) fields bytes (Ok s.fields) (s.spelled, s.checked), s.is) refl
message_met schema bytes (Err e) f =
    let first : AllStand SpellsField FieldFault (check_by schema.table) bytes (Err e) = grind arith in
    rw (all_met (check_by schema.table) fields bytes (Err e) first) refl

-- and only that
pub message_is : {M : Type 0} (schema : Schema M) (bytes : List ℕ) (r : Result M WireError)
    → MessageStands schema bytes r ↔ (message_of schema bytes ≡ r)
unfolding message_of
message_is schema bytes r = (
  message_met schema bytes r,
  λ e. subst (MessageStands schema bytes) e
      (said schema bytes (fields_of schema bytes) (all_stand (check_by schema.table) fields bytes)),
)

pub other_type : {M : Type 0} (schema : Schema M) (p : Payload) → wire_type p ≢ 2
    → message_in schema p ≡ Err errors.WrongWireType
unfolding message_in
other_type schema p ne = grind arith

-- what a decoder promises, from what it gives
pub decodes : {V M : Type 0} (view : V → M) (schema : Schema M) (bytes : List ℕ) (r : Result V WireError)
    → Gives view r (message_of schema bytes) → Decodes schema view bytes r
decodes {V} {M} view schema bytes r g =
    let read = λ (m : M). (message_is schema bytes (Ok m)).1 in
    let met = λ (e : WireError). (message_is schema bytes (Err e)).1 in
    record {
      found = grind (arith, read);
      only = λ m s. subst (Gives view r) (message_met schema bytes (Ok m) s) g;
      fault = grind (arith, met);
      faulty = λ e f. subst (Gives view r) (message_met schema bytes (Err e) f) g;
      exact = g;
    }
