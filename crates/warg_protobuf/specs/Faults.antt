-- Which fault stands at the front of bytes, by its cause and apart from how reading finds it.
use Rattle.std.specs.Prelude.{◌≡◌, ℕ, ◌/◌, ◌%◌, ◌^◌, ◌<◌, ◌≤◌, List, ◌∷◌, ◌++◌, length, ◌⊎◌, All}
use Rattle.std.specs.List.{AllByRecursion}
use Rattle.warg_protobuf.specs.declared.error.WireError.{WireError}
use Rattle.warg_protobuf.specs.declared.error.WireError.TheVariants.{Truncated, BadVarint, BadTag, Group, BadWireType, NumberTooLarge}
use Rattle.warg_protobuf.specs.Varint.{IsVarint}
use Rattle.warg_protobuf.specs.Field.{SpellsAll}

-- The bytes begin with a spelling of this thing, and the rest follows it.
pub record BeginsWith {X : Type 0} (Spells : List ℕ → X → Type 0) (bytes : List ℕ) (x : X) (rest : List ℕ) : Type 0 where
  pub front : List ℕ
  pub spelled : Spells front x
  pub parts : bytes ≡ front ++ rest

-- Each of these bytes has its top bit set, so that a varint goes on behind it (proto3 encoding, "Base 128 Varints").
abbrev pub AllGoOn : List ℕ → Type 0
AllGoOn bytes = AllByRecursion (λ b. 128 ≤ b) bytes

-- Why no varint stands at the front: fewer than ten bytes that all go on, or nine that go on and a tenth above 01 (proto3 encoding; the names are this crate's).
pub data VarintFault (bytes : List ℕ) : WireError → Type 0 where
  ends : length bytes < 10 → AllGoOn bytes → VarintFault bytes Truncated
  tenth : (nine rest : List ℕ) (b : ℕ) → length nine ≡ 9 → AllGoOn nine → 2 ≤ b → bytes ≡ nine ++ b ∷ rest
      → VarintFault bytes BadVarint

-- Why no payload of this wire type stands at the front: a fault of its varint, too few bytes, a group, or a type that stands for nothing (proto3 encoding; the names are this crate's).
pub data PayloadFault (bytes : List ℕ) : ℕ → WireError → Type 0 where
  in_varint : (fault : WireError) → VarintFault bytes fault → PayloadFault bytes 0 fault
  below_eight : length bytes < 8 → PayloadFault bytes 1 Truncated
  in_length : (fault : WireError) → VarintFault bytes fault → PayloadFault bytes 2 fault
  below_length : (len : ℕ) (rest : List ℕ) → BeginsWith IsVarint bytes len rest → length rest < len
      → PayloadFault bytes 2 Truncated
  group_start : PayloadFault bytes 3 Group
  group_end : PayloadFault bytes 4 Group
  below_four : length bytes < 4 → PayloadFault bytes 5 Truncated
  no_type : (kind : ℕ) → 6 ≤ kind → PayloadFault bytes kind BadWireType

-- Why no field stands at the front, first cause first: a fault of the tag's varint, a tag above 2^32 - 1 or with number 0, or a fault of the payload (proto3 encoding; the names are this crate's).
pub data FieldFault (bytes : List ℕ) : WireError → Type 0 where
  in_tag : (fault : WireError) → VarintFault bytes fault → FieldFault bytes fault
  bad_tag : (tag : ℕ) (rest : List ℕ) → BeginsWith IsVarint bytes tag rest → (2 ^ 32 ≤ tag) ⊎ (tag / 8 ≡ 0)
      → FieldFault bytes BadTag
  in_payload : (tag : ℕ) (rest : List ℕ) (fault : WireError) → BeginsWith IsVarint bytes tag rest → tag < 2 ^ 32
      → 0 < tag / 8 → PayloadFault rest (tag % 8) fault → FieldFault bytes fault

-- The bytes are varints one after the other, of these numbers, each below 2^32 (proto3 encoding, "Packed Repeated Fields").
pub record IsPacked (bytes : List ℕ) (ns : List ℕ) : Type 0 where
  pub spelled : SpellsAll IsVarint bytes ns
  pub fit : All (λ n. n < 2 ^ 32) ns

-- Why no uint32 stands at the front: a fault of its varint, or a number of 2^32 or more (this crate's names).
pub data NumberFault (bytes : List ℕ) : WireError → Type 0 where
  in_number : (fault : WireError) → VarintFault bytes fault → NumberFault bytes fault
  too_large : (n : ℕ) (rest : List ℕ) → BeginsWith IsVarint bytes n rest → 2 ^ 32 ≤ n → NumberFault bytes NumberTooLarge

-- A front of the bytes is packed numbers, and the rest, which isn't empty, begins with the fault (this crate's names).
pub record PackedFault (bytes : List ℕ) (fault : WireError) : Type 0 where
  pub numbers : List ℕ
  pub front : List ℕ
  pub rest : List ℕ
  pub parts : bytes ≡ front ++ rest
  pub packed : IsPacked front numbers
  pub left : 0 < length rest
  pub why : NumberFault rest fault
