-- What is collected on the way down a key's bits.
use Rattle.std.specs.Prelude.{◌≡◌, ℕ, zero, suc, ◌+◌, ◌-◌, ◌^◌, Bool, true, false, cond, nat_eq, ◌⊎◌, IsTrue, List, [], ◌∷◌, ◌++◌, length, reverse, Option, Some, None}
use Rattle.std.specs.Bool.{then_some}
use Rattle.std.specs.Cmp.Lexicographic.{pointwise}
use Rattle.std.specs.FinMap.{get, contains_key, len}
use Rattle.warg_crypto.specs.EmptyTrees.{empty_root}
use Rattle.warg_map.specs.declared.walk.Asked.{Asked}
use Rattle.warg_map.specs.declared.walk.Asked.TheVariants.{Presence, EmptyLeaf, Either}
use Rattle.warg_map.specs.declared.node.Stem.{Stem}
use Rattle.warg_map.specs.Bits.{bits_from, last_bits}
use Rattle.warg_map.specs.Sparse.{SparseMap, sparse_root}
use Rattle.warg_map.specs.Peers.{IsPeers, shared, lone_peers}
use Rattle.warg_map.specs.Private.Under.{under}

-- Whether a proof is asked for where nothing is held.
abbrev pub is_of_absence : Asked → Bool
is_of_absence Presence = false
is_of_absence EmptyLeaf = true
is_of_absence Either = true

-- Whether a proof is asked for where this leaf digest is held.
abbrev pub is_of_leaf : (List ℕ → List ℕ) → Asked → List ℕ → Bool
is_of_leaf H Presence leaf = true
is_of_leaf H EmptyLeaf leaf = pointwise nat_eq leaf (empty_root H 0)
is_of_leaf H Either leaf = true

-- Whether a leaf digest is held, if a proof of that is asked for.
abbrev pub answer_of : (List ℕ → List ℕ) → Asked → Option (List ℕ) → Option Bool
answer_of H asked None = then_some (is_of_absence asked) false
answer_of H asked (Some leaf) = then_some (is_of_leaf H asked leaf) true

-- The peer of an empty half of k levels: its digest beside bits that are held, and else None.
abbrev pub empty_half : (List ℕ → List ℕ) → Bool → ℕ → Option (List ℕ)
empty_half H held k = cond held (Some (empty_root H k)) None

-- The peers of the empty halves of n heights from k on.
unfoldable pub empty_halves : (ℕ → Option (List ℕ)) → ℕ → ℕ → List (Option (List ℕ))
empty_halves half k zero = []
empty_halves half k (suc n) = empty_halves half k n ++ half (k + n) ∷ []

-- The peers of bits that part from a stem after so many of its own: what lies below it there, and empty halves above.
abbrev pub peers_beside : {D A : _} → (List ℕ → List ℕ) → Stem D A → ℕ → List (Option (List ℕ))
peers_beside H s n =
    let rest = s.len - (n + 1) in
    Some (sparse_root H (s.below.0 + rest) (under (bits_from s.key (s.from + (n + 1)) rest) s.below.1)) ∷ empty_halves (empty_half H false) (256 - s.from - n) n

-- No other bits are held, and there are `lone` peers; or others are that share all but one of as many bits as there are peers.
abbrev pub Reaches : ℕ → SparseMap → List Bool → ℕ → Type 0
Reaches lone m bits n = ((n ≡ lone) × ((q : List Bool) → IsTrue (contains_key m q) → q ≡ bits)) ⊎ ((q : List Bool) × IsTrue (contains_key m q) × ¬ (q ≡ bits) × (n ≡ shared bits q + 1))

-- How many peers bits have of which no others are held.
abbrev pub lone_count : Bool → ℕ → ℕ
lone_count held height = cond held (lone_peers height) 0

-- The peers, from the bottom to the top, of bits that are held in a map of this height, or of bits that aren't.
pub record Collects (H : List ℕ → List ℕ) (held : Bool) (height : ℕ) (m : SparseMap) (bits : List Bool) (peers : List (Option (List ℕ))) : Type 0 where
  pub peers_from_top : IsPeers H (empty_half H held) (get m) bits (reverse peers)
  pub reaches : Reaches (lone_count held height) m bits (length peers)

-- A key digest is one too many: a new one in a full map.
abbrev pub IsOneTooMany : SparseMap → List ℕ → Type 0
IsOneTooMany m key = (len m ≡ 2 ^ 64 - 1) × (contains_key m (last_bits key 256) ≡ false)
