-- How a map grows by the pairs of an iterator.
use Rattle.std.specs.Prelude.{◌≡◌, ℕ, ◌-◌, ◌^◌, false, List, [], ◌∷◌, ◌++◌, Option, MatchOption}
use Rattle.std.specs.FinMap.{len, contains_key}
use Rattle.std.specs.Iterator.{Drains, Yields}
use Rattle.warg_map.specs.Bits.{key_bits}
use Rattle.warg_map.specs.Sparse.{SparseMap, inserted, pair_bytes}

-- The iterator ends after some pairs, and the new map is the old one with these inserted, in order.
abbrev pub IsExtended : {K V I : Type 0} → (List ℕ → List ℕ) → (K → List ℕ) → (V → List ℕ) → (I → Option (K × V) → I → Type 0) → I → SparseMap → SparseMap → Type 0
IsExtended {K} {V} H key_bytes value_bytes next_gives iter old new =
    (pairs : List (K × V)) × Drains next_gives iter pairs × (new ≡ inserted H old (pair_bytes key_bytes value_bytes pairs))

-- Some first pairs of the iterator fill the map, as many keys as can be counted, and the next one is of a new key digest.
abbrev pub IsFullWithin : {K V I : Type 0} → (List ℕ → List ℕ) → (K → List ℕ) → (V → List ℕ) → (I → Option (K × V) → I → Type 0) → I → SparseMap → Type 0
IsFullWithin {K} {V} {I} H key_bytes value_bytes next_gives iter old =
    (pairs : List (K × V)) × (next : K × V) × (rest : I) × Yields next_gives iter (pairs ++ next ∷ []) rest
    × (len (inserted H old (pair_bytes key_bytes value_bytes pairs)) ≡ 2 ^ 64 - 1)
    × (contains_key (inserted H old (pair_bytes key_bytes value_bytes pairs)) (key_bits H (key_bytes next.0)) ≡ false)

-- The first pair of the iterator, whichever it is, is of a key digest that the map doesn't hold.
abbrev pub BeginsNew : {K V I : Type 0} → (List ℕ → List ℕ) → (K → List ℕ) → (I → Option (K × V) → I → Type 0) → I → SparseMap → Type 0
BeginsNew {K} {V} {I} H key_bytes next_gives iter old =
    (first : Option (K × V)) (rest : I) → next_gives iter first rest → MatchOption first ⊥ (λ pair. contains_key old (key_bits H (key_bytes pair.0)) ≡ false)
