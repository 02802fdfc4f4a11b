-- Hashes and entries that the code compares and counts.
use Rattle.std.proofs.Common.{◌≡◌, ℕ, List, length, map, Option, Some, None}
use Rattle.std.proofs.lemmas.List.{length-map}
use Rattle.std.specs.Cmp.Lexicographic.{bytes_decides}

-- the bytes of entries are as many as the entries
pub entries_count : {V : Type 0} (bytes : V → List ℕ) (entries : List V) → length (map bytes entries) ≡ length entries
entries_count bytes entries = length-map entries bytes

-- what tells whether roots over entries are met
pub ruleset meets = (bytes_decides, entries_count)

-- what is there isn't nothing
pub none_some : {T : Type 0} {found : Option T} {it : T} → None ≡ found → found ≡ Some it → ⊥
none_some none is = cc
