-- The bytes of a page.
use Rattle.std.specs.Prelude.{ℕ, List, [], ◌∷◌, ◌++◌, Option, Some, None}
use Rattle.std.specs.List.{flat_map}
use Rattle.std.specs.Int.{to_be_bytes, w64}
use Rattle.warg_pages.specs.Slots.{SlotAt}

-- The byte that says whether a lone key stands below a slot, or a page.
abbrev pub kind_of : Option (List ℕ × List ℕ) → ℕ
kind_of None = 0
kind_of (Some l) = 1

-- The bytes of a lone key: its digest and its leaf digest.
abbrev pub lone_bytes : Option (List ℕ × List ℕ) → List ℕ
lone_bytes None = []
lone_bytes (Some l) = l.0 ++ l.1

-- The bytes of a slot: its byte, its kind, the version in 8 bytes, the greatest first, the digest, and a lone key's bytes.
abbrev pub slot_bytes : SlotAt → List ℕ
slot_bytes x = x.byte ∷ kind_of x.lone ∷ (to_be_bytes w64 x.version ++ (x.digest ++ lone_bytes x.lone))

-- The bytes of a page: those of its slots, one after the other.
abbrev pub page_bytes : List SlotAt → List ℕ
page_bytes slots = flat_map slot_bytes slots
