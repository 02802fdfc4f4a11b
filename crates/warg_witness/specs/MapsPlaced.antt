-- Two maps of one root: their values, and where the two byte lists of their collision stand.
use Rattle.std.specs.Prelude.{◌≡◌, ◌+◌, ℕ, ◌⊎◌, Bool, List, length, map, Contains}
use Rattle.warg_witness.specs.MapClaims.{value_in, last_insertion}
use Rattle.warg_witness.specs.MapInputs.{plain_input_at}

-- What a map is of: keys with values, in the order in which they were inserted.
abbrev pub Insertions : Type 0
Insertions = List (List ℕ × List ℕ)

-- A key's last value is one in both. A key that is inserted nowhere has no bytes.
abbrev pub HaveOneValue : Insertions → Insertions → List ℕ → Type 0
HaveOneValue xs ys key = value_in (last_insertion key xs) ≡ value_in (last_insertion key ys)

-- Each key's last value is one in both.
abbrev pub HaveSameValues : Insertions → Insertions → Type 0
HaveSameValues xs ys = (key : List ℕ) → HaveOneValue xs ys key

-- The key is of an insertion into one of two maps.
abbrev pub IsInserted : Insertions → Insertions → List ℕ → Type 0
IsInserted xs ys key = Contains (map (λ e. e.0) xs) key ⊎ Contains (map (λ e. e.0) ys) key

-- The plain inputs of two maps at one prefix of bits, in the order given.
pub record IsPlacedAtPrefixes (H : List ℕ → List ℕ) (xs ys : Insertions) (first second : List ℕ) : Type 0 where
  pub prefix : List Bool
  pub levels : ℕ
  pub whole : length prefix + levels ≡ 256
  pub first_plain : first ≡ plain_input_at H xs prefix levels
  pub second_plain : second ≡ plain_input_at H ys prefix levels

-- Of two maps: these, or two keys that were inserted.
abbrev pub IsPlacedInMaps : (List ℕ → List ℕ) → Insertions → Insertions → List ℕ → List ℕ → Type 0
IsPlacedInMaps H xs ys first second = IsPlacedAtPrefixes H xs ys first second ⊎ (IsInserted xs ys first × IsInserted xs ys second)
