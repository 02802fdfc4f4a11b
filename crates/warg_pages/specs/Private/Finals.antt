-- From the peers of a way down to those of a proof.
use Rattle.std.specs.Prelude.{◌≡◌, ℕ, ◌+◌, ◌-◌, ◌≤◌, ◌⊎◌, List, [], ◌∷◌, ◌++◌, length, take, drop, replicate, Option, Some, None, unwrap_or, IfSome}
use Rattle.std.specs.FinMap.{get}
use Rattle.warg_crypto.specs.EmptyTrees.{empty_root}
use Rattle.warg_map.specs.Bits.{last_bits}
use Rattle.warg_map.specs.Sparse.{map_of}
use Rattle.warg_map.specs.Peers.{IsPeers}
use Rattle.warg_pages.specs.Prefixes.{version}
use Rattle.warg_pages.specs.Private.Descents.{value_above, held_leaf}

-- The whole way down from a root: the peers, from the top, lead from what is held to it.
pub record IsWholeWay (H : List ℕ → List ℕ) (root : List ℕ) (key : List ℕ) (peers : List (Option (List ℕ))) (held : Option (ℕ × List ℕ)) : Type 0 where
  pub few : length peers ≤ 256
  pub leads : value_above H 0 peers (unwrap_or (held_leaf held) (empty_root H 0)) (last_bits key 256) ≡ root

-- The peers are those of the map of these insertions, and what is held is what the map holds, by the last insertion under this digest.
pub record IsWholeWayOf (H : List ℕ → List ℕ) (insertions : List (List ℕ × List ℕ)) (key : List ℕ) (peers : List (Option (List ℕ))) (held : Option (ℕ × List ℕ)) : Type 0 where
  pub are_peers : IsPeers H (λ k. None) (get (map_of H insertions)) (last_bits key 256) peers
  pub is_leaf : get (map_of H insertions) (last_bits key 256) ≡ held_leaf held
  pub is_index : IfSome held (λ h. h.0 + 1 ≡ version H insertions (last_bits key 256))

-- Peers of which the last is there.
abbrev pub EndsInSome : List (Option (List ℕ)) → Type 0
EndsInSome os = (front : List (Option (List ℕ))) × (y : List ℕ) × (os ≡ front ++ Some y ∷ [])

-- So many of the peers are left, when those at the end that are None are dropped.
pub record AreLeft (peers : List (Option (List ℕ))) (n : ℕ) : Type 0 where
  pub within : n ≤ length peers
  pub dropped : drop n peers ≡ replicate (length peers - n) None
  pub ends : (take n peers ≡ []) ⊎ EndsInSome (take n peers)

-- Peers from the top, of which the first has this number, with the digests of empty trees.
abbrev pub filled_from : (List ℕ → List ℕ) → ℕ → List (Option (List ℕ)) → List (Option (List ℕ))
filled_from H at [] = []
filled_from H at (o ∷ os) = Some (unwrap_or o (empty_root H (255 - at))) ∷ filled_from H (at + 1) os

-- The peers of a proof of presence, from the top: one for a lone key.
abbrev pub presence_peers : (List ℕ → List ℕ) → List (Option (List ℕ)) → List (Option (List ℕ))
presence_peers H [] = Some (empty_root H 255) ∷ []
presence_peers H (o ∷ os) = filled_from H 0 (o ∷ os)
