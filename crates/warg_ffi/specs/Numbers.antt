-- The number that a call answers for a verdict.
use Rattle.std.specs.Prelude.{◌≡◌, ◌⊎◌, ◌-ℤ◌, ℤ, pos, Bool, true, false, IsTrue, ◌==◌, if◌then◌else◌, List, ℕ, length, Result, Ok, Err}
use Rattle.std.specs.List.{list_all}
use Rattle.warg_protobuf.specs.declared.error.WireError.{WireError}
use Rattle.warg_protobuf.specs.declared.error.WireError.TheVariants as wire
use Rattle.warg_protobuf.specs.declared.value_error.DecodeError.{DecodeError}
use Rattle.warg_protobuf.specs.declared.value_error.DecodeError.TheVariants as decoding
use Rattle.warg_check.specs.declared.verdict.CheckError.{CheckError}
use Rattle.warg_check.specs.declared.verdict.CheckError.TheVariants as fault

-- The number so far below 0.
abbrev pub minus : ℕ → ℤ
minus n = pos 0 -ℤ pos n

-- The number of a fault of a message's bytes.
abbrev pub wire_number : WireError → ℤ
wire_number wire.Truncated = minus 11
wire_number wire.BadVarint = minus 12
wire_number wire.BadTag = minus 13
wire_number wire.Group = minus 14
wire_number wire.BadWireType = minus 15
wire_number wire.WrongWireType = minus 16
wire_number wire.NumberTooLarge = minus 17
wire_number wire.Memory = minus 1

-- The number of a fault of a bundle's bytes.
abbrev pub decode_number : DecodeError → ℤ
decode_number (decoding.Wire e) = wire_number e
decode_number decoding.HashLength = minus 21
decode_number decoding.NotAscending = minus 22
decode_number decoding.NotALog = minus 24
decode_number decoding.NotAStack = minus 25
decode_number decoding.TooManyPeers = minus 23
decode_number decoding.Memory = minus 1

-- The number of a verdict.
abbrev pub verdict_number : Result Bool CheckError → ℤ
verdict_number (Ok true) = pos 1
verdict_number (Ok false) = pos 0
verdict_number (Err (fault.Decode e)) = decode_number e
verdict_number (Err fault.NoSuchProof) = minus 2
verdict_number (Err fault.Memory) = minus 1

-- Whether each of these roots is 32 bytes.
abbrev pub are_roots : List (List ℕ) → Bool
are_roots roots = list_all (λ root. length root == 32) roots

-- The number of a verdict under these roots: -3 for a root that isn't 32 bytes.
abbrev pub number_under : List (List ℕ) → Result Bool CheckError → ℤ
number_under roots verdict = if are_roots roots then verdict_number verdict else minus 3

-- A call with these roots returned this number for the verdict: its own, or -1 where memory was refused. Roots are
-- looked at before allocating.
abbrev pub Returns : List (List ℕ) → Result Bool CheckError → ℤ → Type 0
Returns roots verdict returned = (returned ≡ number_under roots verdict) ⊎ (IsTrue (are_roots roots) × (returned ≡ minus 1))
