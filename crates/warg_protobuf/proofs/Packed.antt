-- Packed numbers: what reading their bytes gives stands there, and what stands there is read.
use Rattle.std.proofs.Common.{◌≡◌, ℕ, ◌^◌, ◌<◌, ◌≤◌, List, Result, Ok, Err, subst, arith, inl, inr}
use Rattle.std.specs.Prelude.{◌↔◌}
use Rattle.std.proofs.lemmas.List.Elements.{All-from_recursion, recursion_from_All}
use Rattle.warg_protobuf.specs.declared.error.WireError.{WireError}
use Rattle.warg_protobuf.specs.declared.error.WireError.TheVariants as errors
use Rattle.warg_protobuf.specs.Varint.{IsVarint}
use Rattle.warg_protobuf.specs.Schema.{is_uint32, packed_uint32s}
use Rattle.warg_protobuf.specs.Faults.{IsPacked, VarintFault, NumberFault, PackedFault}
use Rattle.warg_protobuf.specs.Faults.NumberFault.{in_number, too_large}
use Rattle.warg_protobuf.proofs.ForCallers.{all_weaken}
use Rattle.warg_protobuf.proofs.Varints.{varints}
use Rattle.warg_protobuf.proofs.Sequences.{AreThere, FaultHere, AllStand, all_stand, all_met}

-- ---- numbers that are uint32s

abbrev IsLow : ℕ → Type 0
IsLow n = n < 2 ^ 32

abbrev Checks : ℕ → Type 0
Checks n = is_uint32 n ≡ Ok tt

-- ---- both directions

-- The bytes are the packed numbers that were read, or the fault that was met is the first in them.
abbrev pub PackedStands : List ℕ → Result (List ℕ) WireError → Type 0
PackedStands bytes (Ok ns) = IsPacked bytes ns
PackedStands bytes (Err e) = PackedFault bytes e

abbrev NumberHere : List ℕ → WireError → Type 0
NumberHere bytes e = FaultHere IsVarint VarintFault is_uint32 bytes e

number_fault : (bytes : List ℕ) (e : WireError) → NumberHere bytes e → NumberFault bytes e
number_fault bytes e (inl cut) = in_number e cut
number_fault bytes e (inr (n, rest, b, bad)) =
    let why : (2 ^ 32 ≤ n) × (errors.NumberTooLarge ≡ e) = grind arith in
    subst (NumberFault bytes) why.1 (too_large n rest b why.0)

fault_number : (bytes : List ℕ) (e : WireError) → NumberFault bytes e → NumberHere bytes e
fault_number bytes e (in_number fault v) = inl v
fault_number bytes e (too_large n rest b le) = inr (n, rest, b, grind arith)

-- numbers that stand there and check are packed numbers, and the other way round
numbers_packed : (bytes ns : List ℕ) → AreThere IsVarint is_uint32 bytes ns → IsPacked bytes ns
numbers_packed bytes ns there =
    grind (arith, All-from_recursion IsLow ns (all_weaken Checks IsLow (λ n h. grind arith) ns there.1))

packed_numbers : (bytes ns : List ℕ) → IsPacked bytes ns → AreThere IsVarint is_uint32 bytes ns
packed_numbers bytes ns p = (
  p.spelled,
  all_weaken IsLow Checks (λ n h. grind arith) ns
      (recursion_from_All IsLow ns p.fit),
)

packed : (bytes : List ℕ) (r : Result (List ℕ) WireError) → AllStand IsVarint VarintFault is_uint32 bytes r
    → PackedStands bytes r
packed bytes r stands = grind (arith, numbers_packed, number_fault)

unpacked : (bytes : List ℕ) (r : Result (List ℕ) WireError) → PackedStands bytes r
    → AllStand IsVarint VarintFault is_uint32 bytes r
unpacked bytes r stands = grind (arith, packed_numbers, fault_number)

pub packed_is : (bytes : List ℕ) (r : Result (List ℕ) WireError) → PackedStands bytes r ↔ (packed_uint32s bytes ≡ r)
unfolding packed_uint32s
packed_is bytes r = (
  λ p. all_met is_uint32 varints bytes r (unpacked bytes r p),
  λ e. packed bytes r (subst (AllStand IsVarint VarintFault is_uint32 bytes) e (all_stand is_uint32 varints bytes)),
)
