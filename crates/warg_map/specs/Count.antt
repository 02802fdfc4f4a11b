-- The number of nodes of a map's tree, from the map alone.
use Rattle.std.specs.Prelude.{ℕ, zero, suc, ◌+◌, Bool, true, false, cond, nat_eq, List, [], ◌∷◌}
use Rattle.std.specs.FinMap.{from_entries, entries, len}
use Rattle.warg_map.specs.Sparse.{SparseMap}

-- The entries whose bits begin with a bit, without it.
unfoldable pub stripped : Bool → List (List Bool × List ℕ) → List (List Bool × List ℕ)
stripped b [] = []
stripped b (([], v) ∷ es) = stripped b es
stripped true ((true ∷ q, v) ∷ es) = (q, v) ∷ stripped true es
stripped true ((false ∷ q, v) ∷ es) = stripped true es
stripped false ((true ∷ q, v) ∷ es) = stripped false es
stripped false ((false ∷ q, v) ∷ es) = (q, v) ∷ stripped false es

-- What a map holds after a bit.
unfoldable pub half_after : Bool → SparseMap → SparseMap
half_after b m = from_entries (stripped b (entries m))

-- Nothing is held.
abbrev pub is_bare : SparseMap → Bool
is_bare m = nat_eq (len m) 0

-- The nodes of the tree of k levels over a map that holds a key: one for a lone key; one and those of both halves, where both hold keys; and where one half does, those of that half, with one more where the run of such levels begins (`run` says that it began above).
unfoldable pub nodes : ℕ → SparseMap → Bool → ℕ
nodes zero m run = 1
nodes (suc k) m run =
    cond (nat_eq (len m) 1) 1
    (cond (is_bare (half_after false m)) (nodes k (half_after true m) true + cond run 0 1)
    (cond (is_bare (half_after true m)) (nodes k (half_after false m) true + cond run 0 1)
    (1 + (nodes k (half_after false m) false + nodes k (half_after true m) false))))

-- The nodes of a map's tree: one for the empty map, two for a lone key, and else those of 256 levels.
abbrev pub node_count : SparseMap → ℕ
node_count m = cond (nat_eq (len m) 0) 1 (cond (nat_eq (len m) 1) 2 (nodes 256 m false))
