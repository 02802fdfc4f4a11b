-- The peers of a page are those of the map.
use Rattle.std.proofs.Common.{◌≡◌, ℕ, ◌+◌, ◌*◌, ◌<◌, Bool, not, List, [], ◌∷◌, ◌++◌, length, Option, refl, sym, ap, ◌∙◌, arith, inl, inr, append_assoc, length-append}
use Rattle.std.proofs.lemmas.Bool.{cases_lt}
use Rattle.std.specs.FinMap.{get}
use Rattle.warg_map.specs.Sparse.{root_of_levels, map_of}
use Rattle.warg_map.specs.ProofValue.{peer_of}
use Rattle.warg_map.specs.Peers.{IsBeside}
use Rattle.warg_pages.specs.Prefixes.{byte_bits, below}
use Rattle.warg_pages.specs.Slots.{page_of}
use Rattle.warg_pages.specs.Pages.{digest_at, root_over, slot_height}
use Rattle.warg_pages.specs.PagePeers.{first_beside, page_peer}
use Rattle.warg_pages.proofs.ByteNumbers.{number, number-byte_bits, number-beside}
use Rattle.warg_pages.proofs.PageRoots.{root_over-below, page_slot, root-same}
use Rattle.warg_pages.proofs.KeyPrefixes.{length-bits_from}

-- bits around one of them
split : (q : List Bool) (k : ℕ) → k < length q → (a : List Bool) × (b : Bool) × (c : List Bool) × (q ≡ a ++ b ∷ c)
    × (length c ≡ k)
split [] k lt = absurd (omega arith)
split (x ∷ q) k lt = elim (cases_lt k (length q)) [
  | inl low ↦ (let r = split q k low in (x ∷ r.0, r.1, r.2, ap (λ t. x ∷ t) r.3, r.4))
  | inr high ↦ ([], x, q, refl, omega arith)
]

-- the tree beside bits
pub beside_tree : (H : List ℕ → List ℕ) (n : ℕ) (digest : ℕ → List ℕ) (held : List Bool → Option (List ℕ))
    (a c : List Bool) (b : Bool)
    → ((q : List Bool) → length q ≡ 8 → digest (number q) ≡ root_of_levels H n (λ r. held (q ++ r)))
    → length (a ++ b ∷ c) ≡ 8
    → root_over H digest (first_beside (number (a ++ b ∷ c)) (length c)) (length c) ≡ root_of_levels H (length c + n)
    (λ r. held (a ++ not b ∷ r))
beside_tree H n digest held a c b fits m = root_over-below H n _ _ digest (λ r. held _) at
  where
    at : (q : List Bool) → length q ≡ length c → digest (first_beside (number (a ++ b ∷ c)) (length c) + number q)
        ≡ root_of_levels H n (λ r. held (a ++ not b ∷ (q ++ r)))
    at q e =
        let len : length (a ++ not b ∷ q) ≡ 8 = rw (length-append a _, e) (sym (length-append a _) ∙ m) in
        rw (number-beside a c q b e) (fits _ len ∙ root-same H n _ _ (λ r. ap held (append_assoc a _ r)))

-- the peer beside a bit
beside_at : (H : List ℕ → List ℕ) (peers : List (Option (List ℕ))) (held : List Bool → Option (List ℕ))
    (p rest : List Bool) (b : Bool) → IsBeside H peers held (p ++ b ∷ rest) → peer_of H peers (length rest)
    ≡ root_of_levels H (length rest) (λ q. held (p ++ not b ∷ q))
unfolding IsBeside
beside_at H peers held [] rest b h = h.0
beside_at H peers held (x ∷ p) rest b h = beside_at H peers (λ q. held _) p rest b h.1

-- the law, around one of the byte's bits
around : (H : List ℕ → List ℕ) (es : List (List ℕ × List ℕ)) (p rest a c : List Bool) (b : Bool) (depth s k : ℕ)
    (peers : List (Option (List ℕ))) → depth < 32 → length p ≡ 8 * depth → length rest ≡ slot_height depth → s < 256
    → byte_bits s ≡ a ++ b ∷ c → length c ≡ k → IsBeside H peers (get (map_of H es)) (p ++ (byte_bits s ++ rest))
    → page_peer H depth (page_of H es p) s k ≡ peer_of H peers (slot_height depth + k)
around H es p rest a c b depth s k peers lt n m byte e len h =
    let all : length (a ++ b ∷ c) ≡ 8 = ap length (sym e) ∙ length-bits_from _ 0 8 in
    let is : number (a ++ b ∷ c) ≡ s = ap number (sym e) ∙ number-byte_bits s byte in
    let path : p ++ (byte_bits s ++ rest) ≡ (p ++ a) ++ b ∷ (c ++ rest) =
    rw (e, append_assoc a (b ∷ c) rest, append_assoc p a (b ∷ (c ++ rest))) refl in
    let height : length (c ++ rest) ≡ slot_height depth + k = rw (length-append c rest, len, m) (omega arith) in
    let swap : k + slot_height depth ≡ slot_height depth + k = omega arith in
    let far = rw height at (beside_at H peers _ _ _ b (rw path at h)) in
    let near = rw (is, len) at (beside_tree H _ (digest_at H (slot_height depth) (page_of H es p))
    (below _ p) a c b (λ q eight. page_slot H es p q depth lt n eight) all) in
    near ∙ ap (λ j. root_of_levels H j (λ q. get (map_of H es) (p ++ (a ++ not b ∷ q)))) swap
    ∙ root-same H _ _ _ (λ q. ap (get (map_of H es)) (sym (append_assoc p a _))) ∙ sym far

-- so it is over the bits of a key
pub page_peers : (H : List ℕ → List ℕ) (es : List (List ℕ × List ℕ)) (p rest : List Bool) (depth s k : ℕ)
    (peers : List (Option (List ℕ))) → depth < 32 → length p ≡ 8 * depth → length rest ≡ slot_height depth → s < 256
    → k < 8
    → IsBeside H peers (get (map_of H es)) (p ++ (byte_bits s ++ rest)) → page_peer H depth (page_of H es p) s k
    ≡ peer_of H peers (slot_height depth + k)
page_peers H es p rest depth s k peers lt n m byte low h =
    let r = split _ k (rw (length-bits_from _ 0 8) low) in
    around H es p rest r.0 r.2 r.1 depth s k peers lt n m byte r.3 r.4 h
