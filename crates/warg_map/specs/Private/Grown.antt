-- Leaves that are put into a tree: leaf digests, each with its key digest, in the order of their insertion.
use Rattle.std.specs.Prelude.{◌≡◌, ℕ, ◌+◌, ◌-◌, ◌<◌, length, Bool, true, false, not, List, [], ◌∷◌, filter, Option}
use Rattle.std.specs.List.{AllByRecursion}
use Rattle.std.specs.Iterator.{Drains}
use Rattle.std.specs.FinMap.{empty, insert, len}
use Rattle.warg_crypto.specs.Sides.{side_bit}
use Rattle.warg_map.specs.declared.grown.Filled.{Filled}
use Rattle.warg_map.specs.declared.grown.Parting.{Parting}
use Rattle.warg_map.specs.declared.grown.Parting.TheVariants.{Nowhere, Behind}
use Rattle.warg_map.specs.declared.node.Fork.{Fork}
use Rattle.warg_map.specs.Bits.{bit_at, bits_from, last_bits}
use Rattle.warg_map.specs.Sparse.{SparseMap, inserted, pair_bytes}
use Rattle.warg_map.specs.Private.Lone.{Lone}
use Rattle.warg_map.specs.Private.Under.{join_at, under, HoldsKey}

-- A map after leaf digests were put under the last k bits of their key digests, in order.
unfoldable pub with_leaves : ℕ → SparseMap → List Lone → SparseMap
with_leaves k m [] = m
with_leaves k m (e ∷ es) = with_leaves k (insert m (last_bits e.key k) e.value) es

-- The leaves of the pairs of an iterator: put into a map, they insert these.
abbrev pub AreLeavesOf : {K V I : Type 0} → (List ℕ → List ℕ) → (K → List ℕ) → (V → List ℕ) → (I → Option (K × V) → I → Type 0) → I → List Lone → Type 0
AreLeavesOf {K} {V} H key_bytes value_bytes next_gives iter es =
    (pairs : List (K × V)) × Drains next_gives iter pairs × ((m : SparseMap) → with_leaves 256 m es ≡ inserted H m (pair_bytes key_bytes value_bytes pairs))

-- All key digests have the n bits of `key` from bit i on.
abbrev pub ShareBits : List ℕ → ℕ → ℕ → List Lone → Type 0
ShareBits key i n es = AllByRecursion (λ e. bits_from e.key i n ≡ bits_from key i n) es

-- Whether a bit is another.
abbrev pub is_bit : Bool → Bool → Bool
is_bit true x = x
is_bit false x = not x

-- The leaves whose key digests have a bit at a place, in order.
unfoldable pub on_side : ℕ → Bool → List Lone → List Lone
on_side at b es = filter (λ e. is_bit b (bit_at e.key at)) es

-- Behind so many of the n bits of a key digest from bit i on, which all leaves share, some go to the other side than the key's next bit.
pub record IsApart (key : List ℕ) (i n : ℕ) (es : List Lone) (shared : ℕ) (b : Bool) (near far : List Lone) : Type 0 where
  pub less : shared < n
  pub same : ShareBits key i shared es
  pub bit : b ≡ bit_at key (i + shared)
  pub near_is : near ≡ on_side (i + shared) b es
  pub far_is : far ≡ on_side (i + shared) (not b) es
  pub some : 0 < length far

-- Where leaves first part from the n bits of a key digest from bit i on.
abbrev pub IsParting : {D A : _} → List ℕ → ℕ → ℕ → List Lone → Parting D A → Type 0
IsParting key i n es (Nowhere leaves) = (leaves.items ≡ es) × ShareBits key i n es
IsParting key i n es (Behind shared side near far) = IsApart key i n es shared (side_bit side) near.items far.items

-- The tree of k levels with leaves put into a map, and how many of their key digests are new to it.
pub record IsPut (k : ℕ) (m : SparseMap) (es : List Lone) (link : ℕ × SparseMap) (fresh : ℕ) : Type 0 where
  pub seen : link ≡ (k, with_leaves k m es)
  pub count : len m + fresh ≡ len link.1

-- A fork below so many bits, with a key on each side.
pub record IsForkAt {D A : _} (depth : ℕ) (f : Fork D A) : Type 0 where
  pub left_height : f.left.0 + 1 + depth ≡ 256
  pub right_height : f.right.0 + 1 + depth ≡ 256
  pub left_holds : HoldsKey f.left.1
  pub right_holds : HoldsKey f.right.1

-- A tree beside one of new leaves, below n bits of a key digest from bit i on, with the first on the side of a bit.
pub record IsBesideLeaves {D A : _} (key : List ℕ) (i n : ℕ) (b : Bool) (near : Filled D A) (far : List Lone) (all : Filled D A) : Type 0 where
  pub link : ℕ × SparseMap
  pub fresh : ℕ
  pub put : IsPut (256 - (i + n + 1)) empty far link fresh
  pub link_is : all.link ≡ (near.link.0 + 1 + n, under (bits_from key i n) (join_at b near.link.1 link.1))
  pub fresh_is : all.fresh ≡ near.fresh + fresh
