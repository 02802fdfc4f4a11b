-- What a node of the tree stands for.
use Rattle.std.specs.Prelude.{◌≡◌, ℕ, ◌+◌, ◌≤◌, ◌<◌, List, true, false, cond, nat_eq, ◌⊎◌}
use Rattle.std.specs.FinMap.{empty, len, contains_key}
use Rattle.warg_map.specs.declared.node.Node.{Node}
use Rattle.warg_map.specs.declared.node.Node.TheVariants.{Fork, Singleton, Stem, Empty}
use Rattle.warg_map.specs.declared.node.Stem.{Stem as Stem'}
use Rattle.warg_map.specs.Bits.{bits_from, last_bits}
use Rattle.warg_map.specs.Sparse.{SparseMap}
use Rattle.warg_map.specs.Count.{nodes}
use Rattle.warg_map.specs.Peers.{lone_peers}
use Rattle.warg_map.specs.Private.Lone.{held_alone}
use Rattle.warg_map.specs.Private.Under.{join, under, HoldsKey, Splits, IsLone}

-- The height of a node: the number of levels of its tree.
abbrev pub tree_height : {D A : _} → Node D A → ℕ
tree_height (Fork f) = f.value.left.0 + 1
tree_height (Singleton s) = s.value.height
tree_height (Stem s) = s.value.below.0 + s.value.len
tree_height Empty = 256

-- The map that a node stands for.
abbrev pub held_by : {D A : _} → Node D A → SparseMap
held_by (Fork f) = join f.value.left.1 f.value.right.1
held_by (Singleton s) = held_alone s.value
held_by (Stem s) = under (bits_from s.value.key s.value.from s.value.len) s.value.below.1
held_by Empty = empty

-- What a link shows of its node: the height, and the map.
abbrev pub seen : {D A : _} → Node D A → ℕ × SparseMap
seen n = (tree_height n, held_by n)

-- The heights fit, and a stem's bits stand at their place in a key digest.
abbrev pub IsLevel : {D A : _} → Node D A → Type 0
IsLevel (Fork f) = (f.value.left.0 ≡ f.value.right.0) × (f.value.left.0 < 256)
IsLevel (Singleton s) = s.value.height ≤ 256
IsLevel (Stem s) = s.value.from + s.value.len + s.value.below.0 ≡ 256
IsLevel Empty = Unit {0}

-- What stands below a stem of this length: a fork, or, below a stem of one bit at the top, a lone key.
abbrev pub IsBelow : ℕ → ℕ × SparseMap → Type 0
IsBelow len below = Splits below.1 ⊎ ((len ≡ 1) × (below.0 ≡ 255) × IsLone below.1)

-- What may stand below the bits of a key digest: a fork, or, below the top, a tree of 255 levels that holds the key.
abbrev pub MayCarry : List ℕ → ℕ × SparseMap → Type 0
MayCarry key below = Splits below.1 ⊎ ((below.0 ≡ 255) × (contains_key below.1 (last_bits key 255) ≡ true))

-- The form of the tree: a fork holds a key on each side; a stem has bits, and below them what may stand there, under its key; and an empty node is that of the whole empty map.
abbrev pub IsFormed : {D A : _} → Node D A → Type 0
IsFormed (Fork f) = HoldsKey f.value.left.1 × HoldsKey f.value.right.1
IsFormed (Singleton s) = s.value.height < 256
IsFormed (Stem s) = (0 < s.value.len) × IsBelow s.value.len s.value.below × MayCarry s.value.key s.value.below
IsFormed Empty = Unit {0}

-- A node that may stand in a map's tree.
pub record IsWellFormed {D A : _} (n : Node D A) : Type 0 where
  pub level : IsLevel n
  pub formed : IsFormed n

-- A node that may stand in a map's tree, with this height and this map.
pub record IsSeen {D A : _} (n : Node D A) (height : ℕ) (held : SparseMap) : Type 0 where
  pub seen_as : seen n ≡ (height, held)
  pub well_formed : IsWellFormed n

-- A stem that may stand in a map's tree, with this height and this map.
pub record IsStemOver {D A : _} (s : Stem' D A) (height : ℕ) (held : SparseMap) : Type 0 where
  pub level : s.from + s.len + s.below.0 ≡ 256
  pub formed : (0 < s.len) × IsBelow s.len s.below × MayCarry s.key s.below
  pub height_is : s.below.0 + s.len ≡ height
  pub held_is : under (bits_from s.key s.from s.len) s.below.1 ≡ held

-- How many nodes the tree of a height over a map has: one where it holds no key; one for a lone key, and two in the whole tree; and else those of the plain tree that are kept.
abbrev pub counted : ℕ → SparseMap → ℕ
counted k m = cond (nat_eq (len m) 0) 1 (cond (nat_eq (len m) 1) (1 + lone_peers k) (nodes k m false))
