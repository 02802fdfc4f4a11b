-- What decoders and encoders promise, apart from how they read and write.
use Rattle.std.specs.Prelude.{◌≡◌, ℕ, ◌<◌, List, ◌++◌, length, ◌⊎◌, Result, Ok, Err, IfOk, IfErr}
use Rattle.std.specs.List.{AllByRecursion}
use Rattle.warg_protobuf.specs.Reading.{Check, Gives}
use Rattle.warg_protobuf.specs.declared.error.WireError.{WireError}
use Rattle.warg_protobuf.specs.declared.error.WireError.TheVariants.{Memory}
use Rattle.warg_protobuf.specs.Field.{Field, SpellsField, SpellsAll}
use Rattle.warg_protobuf.specs.Faults.{BeginsWith, FieldFault}
use Rattle.warg_protobuf.specs.Schema.{Schema, check_by, message_of}

-- Each of these things checks.
abbrev pub AllCheck : {X : Type 0} → Check X → List X → Type 0
AllCheck check xs = AllByRecursion (λ x. check x ≡ Ok tt) xs

-- The bytes are the spellings of fields that all check, and the message is what these fields say (proto3 encoding).
pub record IsSpelled {M : Type 0} (schema : Schema M) (bytes : List ℕ) (m : M) : Type 0 where
  pub fields : List Field
  pub spelled : SpellsAll SpellsField bytes fields
  pub checked : AllCheck (check_by schema.table) fields
  pub is : m ≡ schema.message fields

-- At the front stands no field, for this cause, or a whole field that doesn't check (this crate's faults).
abbrev pub FaultAt : {M : Type 0} → Schema M → List ℕ → WireError → Type 0
FaultAt schema bytes fault =
    FieldFault bytes fault ⊎
    ((f : Field) × (rest : List ℕ) × BeginsWith SpellsField bytes f rest × (check_by schema.table f ≡ Err fault))

-- A front of the bytes is the spellings of fields that all check, and the rest, which isn't empty, begins with the fault (this crate's faults).
pub record FaultStands {M : Type 0} (schema : Schema M) (bytes : List ℕ) (fault : WireError) : Type 0 where
  pub taken : List Field
  pub front : List ℕ
  pub rest : List ℕ
  pub parts : bytes ≡ front ++ rest
  pub spelled : SpellsAll SpellsField front taken
  pub checked : AllCheck (check_by schema.table) taken
  pub left : 0 < length rest
  pub why : FaultAt schema rest fault

-- What a decoder promises of the bytes, where what it returns is seen by `view`.
pub record Decodes {V M : Type 0} (schema : Schema M) (view : V → M) (bytes : List ℕ) (result : Result V WireError) : Type 0 where
  -- What is read is spelled so.
  pub found : IfOk result (λ m. IsSpelled schema bytes (view m))
  -- What is spelled so is read, unless memory runs out.
  pub only : (m : M) → IsSpelled schema bytes m → Gives view result (Ok m)
  -- A fault that is named stands in the bytes.
  pub fault : IfErr result (λ e. (e ≡ Memory) ⊎ FaultStands schema bytes e)
  -- A fault that stands in the bytes is named, unless memory runs out.
  pub faulty : (e : WireError) → FaultStands schema bytes e → Gives view result (Err e)
  -- All of this as a function of the bytes.
  pub exact : Gives view result (message_of schema bytes)

-- The bytes are the one written form of the message.
pub record IsEncoded {M : Type 0} (schema : Schema M) (form : M → List ℕ) (m : M) (bytes : List ℕ) : Type 0 where
  pub written : bytes ≡ form m
  -- They spell the message.
  pub spelled : IsSpelled schema bytes m
  -- They are read as the same message.
  pub again : message_of schema bytes ≡ Ok m
