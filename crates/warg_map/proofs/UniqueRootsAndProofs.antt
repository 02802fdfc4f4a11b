-- A map has one root, and one proof of each key.
use Rattle.std.proofs.Common.{◌≡◌, ℕ, zero, suc, Bool, true, false, List, [], ◌∷◌, length, Option, unwrap_or, refl, sym, ap, ◌∙◌, arith, inl, inr}
use Rattle.std.proofs.lemmas.List.{length-reverse, reverse-reverse}
use Rattle.std.specs.Prelude.{reverse}
use Rattle.std.specs.FinMap.{get}
use Rattle.warg_crypto.specs.EmptyTrees.{empty_root}
use Rattle.warg_map.specs.Sparse.{root_of_levels}
use Rattle.warg_map.specs.Peers.{IsPeer, IsPeers, IsPeerCount}
use Rattle.warg_map.proofs.BitsInFront.{no_some}

-- the leaf digests decide the root
pub root-leaves : (H : List ℕ → List ℕ) (k : ℕ) (m n : List Bool → Option (List ℕ))
    → ((bits : List Bool) → length bits ≡ k → unwrap_or (m bits) (empty_root H 0) ≡ unwrap_or (n bits) (empty_root H 0))
    → root_of_levels H k m ≡ root_of_levels H k n
unfolding root_of_levels
root-leaves H zero m n h = h [] refl
root-leaves H (suc k) m n h =
    let left = root-leaves H k (λ q. m (false ∷ q)) (λ q. n (false ∷ q)) (λ q e. h (false ∷ q) (ap suc e)) in
    let right = root-leaves H k (λ q. m (true ∷ q)) (λ q. n (true ∷ q)) (λ q e. h (true ∷ q) (ap suc e)) in
    rw (left, right)

-- proofs
same_count : {lone m bits n k : _} → IsPeerCount lone m bits n → IsPeerCount lone m bits k → n ≡ k
same_count g h = grind arith

same_peer : {e o p : Option (List ℕ)} {m : List Bool → Option (List ℕ)} (H : List ℕ → List ℕ) (k : ℕ) → IsPeer H e k m o
    → IsPeer H e k m p → o ≡ p
same_peer H k (inl g) (inl h) = g.0 ∙ sym h.0
same_peer {m} H k (inl g) (inr h) = absurd (no_some (m h.1.0) (g.1 h.1.0) h.1.1)
same_peer {m} H k (inr g) (inl h) = absurd (no_some (m g.1.0) (h.1 g.1.0) g.1.1)
same_peer H k (inr g) (inr h) = g.0 ∙ sym h.0

same_peers : (H : List ℕ → List ℕ) (half : ℕ → Option (List ℕ)) (bits : List Bool) (m : List Bool → Option (List ℕ))
    (ps qs : List (Option (List ℕ))) → length ps ≡ length qs → IsPeers H half m bits ps → IsPeers H half m bits qs → ps
    ≡ qs
unfolding IsPeers
same_peers H half bits m [] [] n g h = refl
same_peers H half bits m [] (q ∷ qs) n g h = absurd (omega (arith, n))
same_peers H half bits m (p ∷ ps) [] n g h = absurd (omega (arith, n))
same_peers H half [] m (p ∷ ps) (q ∷ qs) n g h = absurd g
same_peers H half (b ∷ bits) m (p ∷ ps) (q ∷ qs) n g h =
    rw (same_peer H (length bits) g.0 h.0, same_peers H half bits (λ r. m (b ∷ r)) ps qs (omega (arith, n)) g.1 h.1)

pub same_proof : {lone m bits : _} (H : List ℕ → List ℕ) (half : ℕ → Option (List ℕ)) (ps qs : List (Option (List ℕ)))
    → IsPeers H half (get m) bits (reverse ps) → IsPeers H half (get m) bits (reverse qs)
    → IsPeerCount lone m bits (length ps) → IsPeerCount lone m bits (length qs) → ps ≡ qs
same_proof {m} {bits} H half ps qs g h i j =
    let same = same_peers H half bits (get m) (reverse ps) (reverse qs)
    (length-reverse ps ∙ same_count i j ∙ sym (length-reverse qs)) g h in
    sym (reverse-reverse ps) ∙ ap reverse same ∙ reverse-reverse qs
