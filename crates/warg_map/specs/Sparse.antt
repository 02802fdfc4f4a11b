-- The plain sparse Merkle tree over a finite map from bit lists to leaf digests.
use Rattle.std.specs.Prelude.{◌≡◌, ℕ, zero, suc, Bool, true, false, List, [], ◌∷◌, length, map, Option, IsTrue, unwrap_or}
use Rattle.std.specs.List.{AllPairs}
use Rattle.std.specs.FinMap.{FinMap, get, contains_key, insert, empty, code}
use Rattle.std.specs.Ordering.{bool_cmp}
use Rattle.std.specs.Cmp.Lexicographic.{slice_cmp}
use Rattle.std.specs.Coded.{Coded, coded_list, coded_ℕ, coded_bool}
use Rattle.std.specs.declared.cmp.Ordering.{Ordering}
use Rattle.warg_crypto.specs.EmptyTrees.{empty_root}
use Rattle.warg_crypto.specs.Tree.{leaf_digest, branch}
use Rattle.warg_map.specs.Bits.{key_bits}

-- The order of bit lists: that of dictionaries.
abbrev pub bits_cmp : List Bool → List Bool → Ordering
bits_cmp = slice_cmp bool_cmp

-- A finite map from bit lists to leaf digests.
abbrev pub SparseMap : Type 0
SparseMap = FinMap bits_cmp (List ℕ)

-- A finite map is stored as the list of its entries.
abbrev pub sparse_map_code : Coded SparseMap
sparse_map_code = code (coded_list coded_bool) (coded_list coded_ℕ)

-- The digest of the tree of k levels over what is held under each bit list: at no level the one leaf digest, or that of an empty leaf; above, the branch over what is held after 0 and after 1.
unfoldable pub root_of_levels : (List ℕ → List ℕ) → ℕ → (List Bool → Option (List ℕ)) → List ℕ
root_of_levels H zero held = unwrap_or (held []) (empty_root H 0)
root_of_levels H (suc k) held = branch H (root_of_levels H k (λ bits. held (false ∷ bits))) (root_of_levels H k (λ bits. held (true ∷ bits)))

-- All bits that a map holds are as many as its levels.
abbrev pub HasLevels : ℕ → SparseMap → Type 0
HasLevels k m = (bits : List Bool) → IsTrue (contains_key m bits) → length bits ≡ k

-- The plain sparse root of k levels of a map.
abbrev pub sparse_root : (List ℕ → List ℕ) → ℕ → SparseMap → List ℕ
sparse_root H k m = root_of_levels H k (get m)

-- The leaf digest of bits: the one that is held, or else that of an empty leaf.
abbrev pub leaf_at : (List ℕ → List ℕ) → SparseMap → List Bool → List ℕ
leaf_at H m bits = unwrap_or (get m bits) (empty_root H 0)

-- A map after insertions of keys with values in order: under the bits of each key the leaf digest of the value inserted last.
unfoldable pub inserted : (List ℕ → List ℕ) → SparseMap → List (List ℕ × List ℕ) → SparseMap
inserted H m [] = m
inserted H m (e ∷ es) = inserted H (insert m (key_bits H e.0) (leaf_digest H e.1)) es

-- The map of insertions, made in order into the empty map.
abbrev pub map_of : (List ℕ → List ℕ) → List (List ℕ × List ℕ) → SparseMap
map_of H es = inserted H empty es

-- The bytes of keys and values, in order.
abbrev pub pair_bytes : {K V : Type 0} → (K → List ℕ) → (V → List ℕ) → List (K × V) → List (List ℕ × List ℕ)
pair_bytes key_bytes value_bytes es = map (λ e. (key_bytes e.0, value_bytes e.1)) es

-- No two of the insertions have keys of one digest.
abbrev pub HasDistinctKeys : (List ℕ → List ℕ) → List (List ℕ × List ℕ) → Type 0
HasDistinctKeys H es = AllPairs (λ e f. ¬ (key_bits H e.0 ≡ key_bits H f.0)) es
