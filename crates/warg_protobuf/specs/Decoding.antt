-- What reading a message or bytes gives: the value that they hold, or their first fault.
use Rattle.std.specs.Prelude.{ℕ, ◌==◌, if◌then◌else◌, List, [], ◌∷◌, length, Option, Some, None, Result, Ok, Err}
use Rattle.warg_protobuf.specs.declared.error.WireError.{WireError}
use Rattle.warg_protobuf.specs.declared.error.WireError.TheVariants as wire
use Rattle.warg_protobuf.specs.declared.value_error.DecodeError.{DecodeError}
use Rattle.warg_protobuf.specs.declared.value_error.DecodeError.TheVariants as fault

-- A fault of the bytes, or that memory was refused, as what reading a value from them answers.
abbrev pub wire_fault : WireError → DecodeError
wire_fault wire.Memory = fault.Memory
wire_fault e = fault.Wire e

-- What a message holds, in what bytes were read as: the first fault of the bytes goes before those of the
-- message's contents.
abbrev pub held_in : {M X : Type 0} → (M → Result X DecodeError) → Result M WireError → Result X DecodeError
held_in read (Ok m) = read m
held_in read (Err e) = Err (fault.Wire e)

-- The value, unless there is a fault.
abbrev pub unless : {X E : Type 0} → Option E → X → Result X E
unless None x = Ok x
unless (Some e) x = Err e

-- The first of two faults, or the second where there is no first.
abbrev pub earlier : {E : Type 0} → Option E → Option E → Option E
earlier None second = second
earlier (Some e) second = Some e

-- The first fault in a list, by the fault of each element.
abbrev pub first_fault : {X E : Type 0} → (X → Option E) → List X → Option E
first_fault fault_of [] = None
first_fault fault_of (x ∷ xs) = earlier (fault_of x) (first_fault fault_of xs)

-- The fault of a digest that isn't 32 bytes.
abbrev pub digest_fault : List ℕ → Option DecodeError
digest_fault digest = if length digest == 32 then None else Some fault.HashLength
