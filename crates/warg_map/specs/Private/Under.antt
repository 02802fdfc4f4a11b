-- Maps built of smaller ones: two below a fork, and one below the bits of a stem.
use Rattle.std.specs.Prelude.{◌≡◌, ℕ, ◌+◌, Bool, true, false, cond, List, [], ◌∷◌, ◌++◌, map, length, IsTrue}
use Rattle.std.specs.FinMap.{from_entries, entries, contains_key, insert, empty}
use Rattle.warg_crypto.specs.EmptyTrees.{empty_root}
use Rattle.warg_crypto.specs.Tree.{input_beside}
use Rattle.warg_map.specs.Sparse.{SparseMap}

-- One map after the bit 0 and another after the bit 1.
unfoldable pub join : SparseMap → SparseMap → SparseMap
join l r = from_entries (map (λ e. (false ∷ e.0, e.1)) (entries l) ++ map (λ e. (true ∷ e.0, e.1)) (entries r))

-- A map on the side of a bit, and another on the other side.
abbrev pub join_at : Bool → SparseMap → SparseMap → SparseMap
join_at b near far = cond b (join far near) (join near far)

-- A map with bits put in front; all beside them is empty.
unfoldable pub under : List Bool → SparseMap → SparseMap
under [] m = m
under (b ∷ bits) m = join_at b (under bits m) empty

-- The digest above a tree of k levels with digest x, along bits beside which all is empty.
unfoldable pub stem_root : (List ℕ → List ℕ) → ℕ → List ℕ → List Bool → List ℕ
stem_root H k x [] = x
stem_root H k x (b ∷ bits) = H (input_beside b (empty_root H (k + length bits)) (stem_root H k x bits))

-- Some key is held.
abbrev pub HoldsKey : SparseMap → Type 0
HoldsKey m = (q : List Bool) × IsTrue (contains_key m q)

-- A key is held after 0 and another after 1.
abbrev pub Splits : SparseMap → Type 0
Splits m = ((q : List Bool) × IsTrue (contains_key m (false ∷ q))) × ((q : List Bool) × IsTrue (contains_key m (true ∷ q)))

-- One key is held, and no other.
abbrev pub IsLone : SparseMap → Type 0
IsLone m = (q : List Bool) × (v : List ℕ) × (m ≡ insert empty q v)
