-- The peers of the proofs that a map gives.
use Rattle.std.specs.Prelude.{◌≡◌, ℕ, suc, ◌+◌, ◌<◌, Bool, true, false, not, IsTrue, ◌⊎◌, reverse, cond, nat_eq, List, [], ◌∷◌, length, Option, Some, None, is_some, MatchOption}
use Rattle.std.specs.FinMap.{get, contains_key}
use Rattle.warg_crypto.specs.EmptyTrees.{empty_root}
use Rattle.warg_map.specs.Sparse.{SparseMap, root_of_levels}
use Rattle.warg_map.specs.ProofValue.{peer_of}

-- How many bits two bit lists share before they part.
abbrev pub shared : List Bool → List Bool → ℕ
shared [] q = 0
shared (b ∷ p) [] = 0
shared (true ∷ p) (true ∷ q) = suc (shared p q)
shared (true ∷ p) (false ∷ q) = 0
shared (false ∷ p) (true ∷ q) = 0
shared (false ∷ p) (false ∷ q) = suc (shared p q)

-- The peer beside bits: where the other half, of k levels, holds no key, it is `empty`, and else Some of its sparse root.
abbrev pub IsPeer : (List ℕ → List ℕ) → Option (List ℕ) → ℕ → (List Bool → Option (List ℕ)) → Option (List ℕ) → Type 0
IsPeer H empty k held o = ((o ≡ empty) × ((q : List Bool) → held q ≡ None)) ⊎ ((o ≡ Some (root_of_levels H k held)) × ((q : List Bool) × IsTrue (is_some (held q))))

-- The peers of bits, from the top: each is that of the other half, an empty half of k levels is written as `empty k`, and below the last nothing else is held.
unfoldable pub IsPeers : (List ℕ → List ℕ) → (ℕ → Option (List ℕ)) → (List Bool → Option (List ℕ)) → List Bool → List (Option (List ℕ)) → Type 0
IsPeers H empty held bits [] = (q : List Bool) → ¬ (q ≡ bits) → held q ≡ None
IsPeers H empty held [] (o ∷ os) = ⊥
IsPeers H empty held (b ∷ bits) (o ∷ os) = IsPeer H (empty (length bits)) (length bits) (λ q. held (not b ∷ q)) o × IsPeers H empty (λ q. held (b ∷ q)) bits os

-- The number of peers of bits: one more than the most bits that they share with others that are held, or `lone` where no others are.
pub record IsPeerCount (lone : ℕ) (m : SparseMap) (bits : List Bool) (n : ℕ) : Type 0 where
  pub above : (q : List Bool) → IsTrue (contains_key m q) → ¬ (q ≡ bits) → shared bits q < n
  pub reached : ((n ≡ lone) × ((q : List Bool) → IsTrue (contains_key m q) → q ≡ bits)) ⊎ ((q : List Bool) × IsTrue (contains_key m q) × ¬ (q ≡ bits) × (n ≡ shared bits q + 1))

-- The number of peers of a lone key: one in the whole tree of 256 levels, and none in a lower one.
abbrev pub lone_peers : ℕ → ℕ
lone_peers height = cond (nat_eq height 256) 1 0

-- The peers, from the bottom to the top, prove that the bits are held in a map of this height. An empty half is written as its digest.
pub record Proves (H : List ℕ → List ℕ) (height : ℕ) (m : SparseMap) (bits : List Bool) (peers : List (Option (List ℕ))) : Type 0 where
  pub held : contains_key m bits ≡ true
  pub peers_from_top : IsPeers H (λ k. Some (empty_root H k)) (get m) bits (reverse peers)
  pub count : IsPeerCount (lone_peers height) m bits (length peers)

-- The peers, from the bottom to the top, prove that the bits are not held in a map. An empty half is written as None.
pub record ProvesAbsent (H : List ℕ → List ℕ) (m : SparseMap) (bits : List Bool) (peers : List (Option (List ℕ))) : Type 0 where
  pub absent : contains_key m bits ≡ false
  pub peers_from_top : IsPeers H (λ k. None) (get m) bits (reverse peers)
  pub count : IsPeerCount 0 m bits (length peers)

-- The peers prove that the leaf digest of bits is that of an empty leaf: that they are not held, or else that they are.
abbrev pub ProvesEmpty : (List ℕ → List ℕ) → SparseMap → List Bool → List (Option (List ℕ)) → Type 0
ProvesEmpty H m bits peers = MatchOption (get m bits) (ProvesAbsent H m bits peers) (λ _. Proves H 256 m bits peers)

-- The peers are what stands in the plain tree beside the bits, however an empty half is written: at each bit the sparse root of what is held on its other side.
unfoldable pub IsBeside : (List ℕ → List ℕ) → List (Option (List ℕ)) → (List Bool → Option (List ℕ)) → List Bool → Type 0
IsBeside H peers held [] = Unit {0}
IsBeside H peers held (b ∷ bits) = (peer_of H peers (length bits) ≡ root_of_levels H (length bits) (λ q. held (not b ∷ q))) × IsBeside H peers (λ q. held (b ∷ q)) bits
