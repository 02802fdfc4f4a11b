-- From a verdict under roots of 32 bytes to the number that is returned for it.
use Rattle.std.proofs.Common.{◌≡◌, ℕ, Bool, true, false, List, [], ◌∷◌, length, ⊎_elim, inl, inr, Result, Ok, Err, refl, ap, w32, ℤ, to_z, of_z}
use Rattle.warg_protobuf.specs.declared.error.WireError.{WireError}
use Rattle.warg_protobuf.specs.declared.error.WireError.TheVariants as wire
use Rattle.warg_protobuf.specs.declared.value_error.DecodeError.{DecodeError}
use Rattle.warg_protobuf.specs.declared.value_error.DecodeError.TheVariants as decoding
use Rattle.warg_protobuf.specs.Reading.{Answers}
use Rattle.warg_check.specs.declared.verdict.CheckError.{CheckError}
use Rattle.warg_check.specs.declared.verdict.CheckError.TheVariants as fault
use Rattle.warg_ffi.specs.Numbers.{wire_number, decode_number, verdict_number, are_roots, Returns}

-- each number fits 32 bits
fits_wire : (e : WireError) → to_z w32 (of_z w32 (wire_number e)) ≡ wire_number e
fits_wire wire.Truncated = refl
fits_wire wire.BadVarint = refl
fits_wire wire.BadTag = refl
fits_wire wire.Group = refl
fits_wire wire.BadWireType = refl
fits_wire wire.WrongWireType = refl
fits_wire wire.NumberTooLarge = refl
fits_wire wire.Memory = refl

fits_decoding : (e : DecodeError) → to_z w32 (of_z w32 (decode_number e)) ≡ decode_number e
fits_decoding (decoding.Wire e) = fits_wire e
fits_decoding decoding.HashLength = refl
fits_decoding decoding.NotAscending = refl
fits_decoding decoding.NotALog = refl
fits_decoding decoding.NotAStack = refl
fits_decoding decoding.TooManyPeers = refl
fits_decoding decoding.Memory = refl

fits : (v : Result Bool CheckError) → to_z w32 (of_z w32 (verdict_number v)) ≡ verdict_number v
fits (Ok true) = refl
fits (Ok false) = refl
fits (Err (fault.Decode e)) = fits_decoding e
fits (Err fault.NoSuchProof) = refl
fits (Err fault.Memory) = refl

number_of : (n : ℤ) (v : Result Bool CheckError) → n ≡ verdict_number v → to_z w32 (of_z w32 n) ≡ verdict_number v
number_of n v is = rw is (fits v)

-- the number of what a check answered
returned : (roots : List (List ℕ)) (said verdict : Result Bool CheckError) (n : ℤ) → are_roots roots ≡ true
    → Answers fault.Memory said verdict → n ≡ verdict_number said → Returns roots verdict (to_z w32 (of_z w32 n))
returned roots (Ok b) verdict n long answers is = inl (rw (long, answers) (number_of n (Ok b) is))
returned roots (Err e) verdict n long answers is = ⊎_elim
    (λ (refused : e ≡ fault.Memory). inr (long, rw (ap verdict_number (ap Err refused)) at (number_of n (Err e) is)))
    (λ (same : verdict ≡ Err e). inl (rw (long, same) (number_of n (Err e) is)))
    answers

-- under one root, and under two
pub returned_under_one : (root : List ℕ) (said verdict : Result Bool CheckError) (n : ℤ) → length root ≡ 32
    → Answers fault.Memory said verdict → n ≡ verdict_number said
    → Returns (root ∷ []) verdict (to_z w32 (of_z w32 n))
returned_under_one root said verdict n long answers is = returned (root ∷ []) said verdict n (rw long refl) answers is

pub returned_under_two : (old new : List ℕ) (said verdict : Result Bool CheckError) (n : ℤ) → length old ≡ 32
    → length new ≡ 32 → Answers fault.Memory said verdict → n ≡ verdict_number said
    → Returns (old ∷ new ∷ []) verdict (to_z w32 (of_z w32 n))
returned_under_two old new said verdict n old_long new_long answers is = returned (old ∷ new ∷ []) said verdict n
    (rw (old_long, new_long) refl) answers is
