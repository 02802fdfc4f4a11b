-- Entry bundles (C2SP tlog-tiles): the entries below a tile of level 0, one after the other.
use Rattle.std.specs.Prelude.{ℕ, ◌/◌, ◌%◌, List, [], ◌∷◌, ◌++◌, length}

-- An entry's length as two bytes, the greater one first.
abbrev pub two_bytes : ℕ → List ℕ
two_bytes n = n / 256 ∷ n % 256 ∷ []

-- The bytes of an entry bundle: for each entry its length, and then its bytes.
unfoldable pub bundle_of : List (List ℕ) → List ℕ
bundle_of [] = []
bundle_of (entry ∷ entries) = two_bytes (length entry) ++ (entry ++ bundle_of entries)
