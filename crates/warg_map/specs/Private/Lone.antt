-- A lone key, as a contract sees it.
use Rattle.std.specs.Prelude.{◌≡◌, ℕ, List}
use Rattle.std.specs.FinMap.{insert, empty}
use Rattle.warg_map.specs.Bits.{last_bits}
use Rattle.warg_map.specs.Sparse.{SparseMap, sparse_root}
use Rattle.warg_map.specs.declared.singleton.Kept.{Kept}

-- A key digest with its leaf digest, and the height of the tree that holds nothing else.
pub record Lone : Type 0 where
  pub key : List ℕ
  pub value : List ℕ
  pub height : ℕ

-- What a lone key's tree holds: the leaf digest under the last bits of the key digest.
abbrev pub held_alone : Lone → SparseMap
held_alone s = insert empty (last_bits s.key s.height) s.value

-- A digest is that of the lone key's tree of its height.
abbrev pub IsKept : {D : _} → (List ℕ → List ℕ) → List ℕ → List ℕ → Kept D → Type 0
IsKept H key value kept = kept.digest ≡ sparse_root H kept.height (insert empty (last_bits key kept.height) value)
