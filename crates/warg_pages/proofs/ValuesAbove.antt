-- Values at the top of bits, and the plain roots there.
use Rattle.std.proofs.Common.{◌≡◌, ℕ, suc, ◌+◌, Bool, true, false, not, List, [], ◌∷◌, ◌++◌, length, Option, None, refl, sym, ap, ◌∙◌, arith, inl, inr, length-append, unwrap_or}
use Rattle.warg_crypto.specs.EmptyTrees.{empty_root}
use Rattle.warg_crypto.specs.Tree.{input_beside}
use Rattle.warg_map.specs.Sparse.{root_of_levels}
use Rattle.warg_map.specs.Peers.{IsPeer, IsPeers}
use Rattle.warg_pages.specs.Private.Descents.{value_above}
use Rattle.warg_pages.proofs.PageRoots.{root-same, root-nothing}

-- over bits in two parts
pub value_above-append : (H : List ℕ → List ℕ) (n : ℕ) (os more : List (Option (List ℕ))) (x : List ℕ)
    (bits rest : List Bool) → length os ≡ length bits
    → value_above H n (os ++ more) x (bits ++ rest) ≡ value_above H (length rest + n) os
    (value_above H n more x rest) bits
unfolding value_above
value_above-append H n [] more x [] rest e = refl
value_above-append H n [] more x _ rest e = absurd (omega arith)
value_above-append H n _ more x [] rest e = absurd (omega arith)
value_above-append H n (o ∷ os) more x (b ∷ bits) rest e =
    let height : length (bits ++ rest) + n ≡ length bits + (length rest + n) = rw (length-append bits rest)
    (omega arith) in
    rw (value_above-append H n os more x bits rest (omega arith), height) refl

-- an empty half more at the bottom says nothing
pub value_above-None : (H : List ℕ → List ℕ) (n : ℕ) (os : List (Option (List ℕ))) (x : List ℕ) (bits : List Bool)
    → value_above H n (os ++ None ∷ []) x bits ≡ value_above H n os x bits
unfolding value_above
value_above-None H n os x [] = refl
value_above-None H n [] x _ = refl
value_above-None H n (o ∷ os) x (b ∷ bits) = rw (value_above-None H n os x bits) refl

-- empty trees above an empty tree
pub value_above-empty : (H : List ℕ → List ℕ) (n : ℕ) (bits : List Bool) → value_above H n [] (empty_root H n) bits
    ≡ empty_root H (length bits + n)
unfolding value_above empty_root
value_above-empty H n [] = let height : n ≡ 0 + n = omega arith in ap (empty_root H) height
value_above-empty H n (b ∷ bits) =
    let height : suc (length bits + n) ≡ suc (length bits) + n = omega arith in
    rw (value_above-empty H n bits, ← height) (both b _)
  where
    both : (b : Bool) (e : List ℕ) → H (input_beside b e e) ≡ H (1 ∷ e ++ e)
    both true e = refl
    both false e = refl

-- The peers beside bits of a tree that go down to a height, from the top.
abbrev pub PeersAbove : (List ℕ → List ℕ) → ℕ → (List Bool → Option (List ℕ)) → List Bool → List (Option (List ℕ))
    → Type 0
PeersAbove H n held [] [] = Unit {0}
PeersAbove H n held [] _ = ⊥
PeersAbove H n held _ [] = ⊥
PeersAbove H n held (b ∷ bits) (o ∷ os) = IsPeer H None (length bits + n) (λ q. held (not b ∷ q)) o
    × PeersAbove H n (λ q. held (b ∷ q)) bits os

-- a peer that is written as None where nothing is held has the root of its half
module _ (H : List ℕ → List ℕ) (k : ℕ) (held : List Bool → Option (List ℕ)) where
  peer_root : (o : Option (List ℕ)) → IsPeer H None k held o → unwrap_or o (empty_root H k) ≡ root_of_levels H k held
  peer_root o (inl none) = rw none.0 (sym (root-same H k held _ none.1 ∙ root-nothing H k))
  peer_root o (inr some) = ap (λ t. unwrap_or t (empty_root H k)) some.0

  level_above : (b : Bool) (x y : List ℕ) → x ≡ root_of_levels H k (λ q. held (not b ∷ q))
      → y ≡ root_of_levels H k (λ q. held (b ∷ q)) → root_of_levels H (suc k) held ≡ H (input_beside b x y)
  unfolding root_of_levels
  level_above true x y e f = rw (e, f) refl
  level_above false x y e f = rw (e, f) refl

pub root_above : (H : List ℕ → List ℕ) (n : ℕ) (held : List Bool → Option (List ℕ)) (bits : List Bool)
    (os : List (Option (List ℕ))) → PeersAbove H n held bits os
    → root_of_levels H (length bits + n) held ≡ value_above H n os (root_of_levels H n (λ q. held (bits ++ q))) bits
unfolding value_above
root_above H n held [] [] h = ap (λ k. root_of_levels H k held) (omega arith)
root_above H n held [] _ h = absurd h
root_above H n held _ [] h = absurd h
root_above H n held (b ∷ bits) (o ∷ os) h =
    let height : suc (length bits) + n ≡ suc (length bits + n) = omega arith in
    rw height (level_above H _ held b _ _ (peer_root H _ (λ q. held _) o h.0)
    (sym (root_above H n (λ q. held _) bits os h.1)))

pub IsPeers-append : (H : List ℕ → List ℕ) (held : List Bool → Option (List ℕ)) (bits rest : List Bool)
    (os more : List (Option (List ℕ))) → PeersAbove H (length rest) held bits os
    → IsPeers H (λ k. None) (λ q. held (bits ++ q)) rest more
    → IsPeers H (λ k. None) held (bits ++ rest) (os ++ more)
unfolding IsPeers
IsPeers-append H held [] rest [] more h g = g
IsPeers-append H held [] rest (o ∷ os) more h g = absurd h
IsPeers-append H held (b ∷ bits) rest [] more h g = absurd h
IsPeers-append H held (b ∷ bits) rest (o ∷ os) more h g =
    let height : length bits + length rest ≡ length (bits ++ rest) = sym (length-append bits rest) in
    (rw height at h.0, IsPeers-append H (λ q. held _) bits rest os more h.1 g)

-- first bits
pub tails : (c : Bool) {q r : List Bool} → c ∷ q ≡ c ∷ r → q ≡ r
tails c e = cc

pub heads : (c : Bool) {q r : List Bool} → ¬ (not c ∷ q ≡ c ∷ r)
heads true e = cc e
heads false e = cc e

-- the peers of bits lead from what is held there to the root
pub alone_root : (H : List ℕ → List ℕ) (held : List Bool → Option (List ℕ)) (bits : List Bool)
    → ((q : List Bool) → ¬ (q ≡ bits) → held q ≡ None) → root_of_levels H (length bits) held ≡ value_above H 0 []
    (unwrap_or (held bits) (empty_root H 0)) bits
unfolding value_above root_of_levels
alone_root H held [] h = refl
alone_root H held (b ∷ bits) h =
    let height : length bits + 0 ≡ length bits = omega arith in
    level_above H _ held b _ _ (rw height (sym (root-same H _ (λ q. held _) _
    (λ q. h (not b ∷ q) (heads b)) ∙ root-nothing H _)))
    (sym (alone_root H (λ q. held _) bits (λ q n. h (b ∷ q) (λ e. n (tails b e)))))
