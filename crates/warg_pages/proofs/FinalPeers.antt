-- The peers of a proof, from those of a way down.
use Rattle.std.proofs.Common.{◌≡◌, ℕ, suc, ◌+◌, ◌-◌, ◌<◌, ◌≤◌, Bool, true, not, List, [], ◌∷◌, ◌++◌, length, take, get_or, Option, Some, None, is_some, refl, sym, ap, ◌∙◌, ◌^◌, arith, inl, inr, ◌⊎◌, unwrap_or}
use Rattle.std.proofs.lemmas.List.{take_more, take-append-drop, length-take, append_assoc}
use Rattle.std.specs.Prelude.{reverse, replicate}
use Rattle.std.proofs.lemmas.List.{reverse-reverse, length-reverse}
use Rattle.std.specs.Option.{option_map}
use Rattle.std.specs.FinMap.{get}
use Rattle.warg_crypto.specs.EmptyTrees.{empty_root}
use Rattle.warg_crypto.specs.Tree.{leaf_digest}
use Rattle.warg_map.specs.Bits.{bits_from, last_bits}
use Rattle.warg_map.specs.Last.{last_with}
use Rattle.warg_map.specs.Sparse.{SparseMap, map_of}
use Rattle.warg_map.specs.ProofValue.{proof_value}
use Rattle.warg_map.specs.Peers.{IsPeer, IsPeers, IsPeerCount, Proves, ProvesAbsent}
use Rattle.warg_map.proofs.ForCallers.{last_held, length-last_bits}
use Rattle.warg_pages.specs.Prefixes.{is_below, version, last_place}
use Rattle.warg_pages.specs.OwnPages.{stands, stands_over}
use Rattle.warg_pages.specs.ProvedKeys.{IsOwnSource}
use Rattle.warg_pages.specs.Private.Descents.{value_above, IsOwnAt, IsOwnWay, IsWayDown}
use Rattle.warg_pages.specs.Private.Finals.{IsWholeWay, IsWholeWayOf, EndsInSome, AreLeft, filled_from, presence_peers}
use Rattle.warg_pages.proofs.PageRoots.{root-same, root-nothing}
use Rattle.warg_pages.proofs.HeldHalves.{short_bits}
use Rattle.warg_pages.proofs.LoneEnds.{nothing_end}
use Rattle.warg_pages.proofs.OwnWays.{nothing_value}
use Rattle.warg_pages.proofs.PeerCounts.{trimmed_peers, trimmed_value, some_count, no_count}
use Rattle.warg_pages.proofs.ProofValues.{reversed_value}
use Rattle.warg_pages.proofs.ValuesAbove.{heads, tails}

-- peers that are filled
abbrev pub lone_peer : (List ℕ → List ℕ) → List (Option (List ℕ)) → List (Option (List ℕ))
lone_peer H [] = Some (empty_root H 255) ∷ []
lone_peer H (o ∷ os) = []

pub filled_from-push : (H : List ℕ → List ℕ) (at : ℕ) (os : List (Option (List ℕ))) (o : Option (List ℕ))
    → filled_from H at (os ++ o ∷ []) ≡ filled_from H at os ++ Some
    (unwrap_or o (empty_root H (255 - (at + length os)))) ∷ []
filled_from-push H at [] o = let none : at + 0 ≡ at = omega arith in rw none refl
filled_from-push H at (p ∷ os) o =
    let more : at + 1 + length os ≡ at + suc (length os) = omega arith in
    rw (filled_from-push H (at + 1) os o, more) refl

length-filled_from : (H : List ℕ → List ℕ) (at : ℕ) (os : List (Option (List ℕ))) → length (filled_from H at os)
    ≡ length os
length-filled_from H at [] = refl
length-filled_from H at (o ∷ os) = ap suc (length-filled_from H (at + 1) os)

filled_peer : (H : List ℕ → List ℕ) (k n : ℕ) (held : List Bool → Option (List ℕ)) (o : Option (List ℕ)) → n ≡ k
    → IsPeer H None k held o → IsPeer H (Some (empty_root H k)) k held (Some (unwrap_or o (empty_root H n)))
filled_peer H k n held o e (inl none) =
    inl (ap Some (rw none.0 (ap (empty_root H) e)), none.1)
filled_peer H k n held o e (inr some) = inr (ap Some (ap (λ t. unwrap_or t (empty_root H n)) some.0), some.1)

filled_peers : (H : List ℕ → List ℕ) (held : List Bool → Option (List ℕ)) (bits : List Bool) (at : ℕ)
    (os : List (Option (List ℕ))) → at + length bits ≡ 256 → IsPeers H (λ k. None) held bits os
    → IsPeers H (λ k. Some (empty_root H k)) held bits (filled_from H at os)
unfolding IsPeers
filled_peers H held bits at [] n h = h
filled_peers H held [] at (o ∷ os) n h = absurd h
filled_peers H held (b ∷ bits) at (o ∷ os) n h = (
  filled_peer H _ _ (λ q. held _) o (omega arith) h.0,
  filled_peers H (λ q. held _) bits _ os (omega arith) h.1,
)

filled_value : (H : List ℕ → List ℕ) (x : List ℕ) (bits : List Bool) (at : ℕ) (os : List (Option (List ℕ)))
    → at + length bits ≡ 256 → value_above H 0 (filled_from H at os) x bits ≡ value_above H 0 os x bits
unfolding value_above
filled_value H x [] at os n = refl
filled_value H x _ at [] n = refl
filled_value H x (b ∷ bits) at (o ∷ os) n =
    let height : 255 - at ≡ length bits + 0 = omega arith in
    rw (filled_value H x bits (at + 1) os (omega arith), height) refl

-- those of a lone key
lone_ends : (H : List ℕ → List ℕ) (held : List Bool → Option (List ℕ)) (bits : List Bool) → length bits ≡ 256
    → IsPeers H (λ k. None) held bits [] → IsPeers H (λ k. Some (empty_root H k)) held bits
    (Some (empty_root H 255) ∷ [])
unfolding IsPeers
lone_ends H held [] n h = absurd (omega arith)
lone_ends H held (b ∷ bits) n h =
    let height : 255 ≡ length bits = omega arith in (
      inl (ap (λ k. Some (empty_root H k)) height, λ q. h (not b ∷ q) (heads b)),
      λ q m. h (b ∷ q) (λ e. m (tails b e)),
    )

lone_value : (H : List ℕ → List ℕ) (x : List ℕ) (bits : List Bool) → length bits ≡ 256
    → value_above H 0 (Some (empty_root H 255) ∷ []) x bits ≡ value_above H 0 [] x bits
unfolding value_above
lone_value H x [] n = refl
lone_value H x (b ∷ bits) n = let height : 255 ≡ length bits + 0 = omega arith in rw (← height) refl

-- what is left of the peers
left_is : (os : List (Option (List ℕ))) (n : ℕ) → AreLeft os n → os ≡ take n os ++ replicate (length os - n) None
left_is os n h = sym (take-append-drop n os) ∙ ap (λ t. take n os ++ t) h.dropped

module _ (H : List ℕ → List ℕ) where
  short_held : (es : List (List ℕ × List ℕ)) (q : List Bool) → ¬ (length q ≡ 256) → get (map_of H es) q ≡ None
  short_held es q n = last_held H q es ∙ ap (option_map (λ (x : List ℕ × List ℕ). leaf_digest H x.1))
      (short_bits H q es n)

  left_peers : (es : List (List ℕ × List ℕ)) (key : List ℕ) (os : List (Option (List ℕ))) (n : ℕ) → AreLeft os n
      → IsPeers H (λ k. None) (get (map_of H es)) (last_bits key 256) os
      → IsPeers H (λ k. None) (get (map_of H es)) (last_bits key 256) (take n os)
  left_peers es key os n h p =
      trimmed_peers H _ _ _ _ (λ q m. short_held es q (λ e. m (e ∙ sym (length-last_bits key 256))))
      (rw (left_is os n h) at p)

  left_value : (x : List ℕ) (bits : List Bool) (os : List (Option (List ℕ))) (n : ℕ) → AreLeft os n
      → value_above H 0 (take n os) x bits ≡ value_above H 0 os x bits
  left_value x bits os n h = sym (trimmed_value H x bits _ _)
      ∙ ap (λ t. value_above H 0 t x bits) (sym (left_is os n h))

  left_count : (m : SparseMap) (bits : List Bool) (os : List (Option (List ℕ))) → IsPeers H (λ k. None) (get m) bits os
      → (os ≡ []) ⊎ EndsInSome os → IsPeerCount 0 m bits (length os)
  left_count m bits os p (inl none) = rw none (no_count H m bits 0 (rw none at p))
  left_count m bits os p (inr some) = some_count H m bits os 0 p some

  presence_count : (m : SparseMap) (bits : List Bool) (os : List (Option (List ℕ)))
      → IsPeers H (λ k. None) (get m) bits os → (os ≡ []) ⊎ EndsInSome os
      → IsPeerCount 1 m bits (length (presence_peers H os))
  presence_count m bits [] p ends = no_count H m bits 1 p
  presence_count m bits _ p (inl none) = absurd (cc none)
  presence_count m bits (o ∷ os) p (inr some) = rw (length-filled_from H 1 os) (some_count H m bits _ 1 p some)

  presence_are : (held : List Bool → Option (List ℕ)) (bits : List Bool) (os : List (Option (List ℕ)))
      → length bits ≡ 256 → IsPeers H (λ k. None) held bits os
      → IsPeers H (λ k. Some (empty_root H k)) held bits (presence_peers H os)
  presence_are held bits [] n p = lone_ends H held bits n p
  presence_are held bits _ n p = filled_peers H held bits 0 _ (omega arith) p

  presence_value : (x : List ℕ) (bits : List Bool) (os : List (Option (List ℕ))) → length bits ≡ 256
      → value_above H 0 (presence_peers H os) x bits ≡ value_above H 0 os x bits
  presence_value x bits [] n = lone_value H x bits n
  presence_value x bits _ n = filled_value H x bits 0 _ (omega arith)

  presence_few : (os : List (Option (List ℕ))) → length os ≤ 256 → length (presence_peers H os) ≤ 256
  presence_few os le = let n = length-filled_from H 0 os in grind arith

  -- the proof of presence
  pub held_proof : (es : List (List ℕ × List ℕ)) (key leaf : List ℕ) (os : List (Option (List ℕ))) (n : ℕ)
      → AreLeft os n → IsPeers H (λ k. None) (get (map_of H es)) (last_bits key 256) os
      → get (map_of H es) (last_bits key 256) ≡ Some leaf
      → Proves H 256 (map_of H es) (last_bits key 256) (reverse (presence_peers H (take n os)))
  held_proof es key leaf os n h p held =
      let left = left_peers es key os n h p in record {
        held = ap is_some held;
        peers_from_top = rw (reverse-reverse _) (presence_are _ _ _ (length-last_bits key 256) left);
        count = rw (length-reverse _) (presence_count _ _ _ left h.ends);
      }

  pub held_leads : (key leaf root : List ℕ) (os : List (Option (List ℕ))) (n : ℕ) → AreLeft os n → length os ≤ 256
      → value_above H 0 os leaf (last_bits key 256) ≡ root
      → proof_value H (reverse (presence_peers H (take n os))) leaf (last_bits key 256) ≡ root
  held_leads key leaf root os n h few leads =
      let size : length (take n os) ≤ 256 = let all = length-take n os in omega arith in
      reversed_value H _ leaf _ (length-last_bits key 256) (presence_few _ size)
      ∙ presence_value leaf _ _ (length-last_bits key 256) ∙ left_value leaf _ os n h ∙ leads

  -- and of absence
  pub absent_proof : (es : List (List ℕ × List ℕ)) (key : List ℕ) (os : List (Option (List ℕ))) (n : ℕ) → AreLeft os n
      → IsPeers H (λ k. None) (get (map_of H es)) (last_bits key 256) os → get (map_of H es) (last_bits key 256) ≡ None
      → ProvesAbsent H (map_of H es) (last_bits key 256) (reverse (take n os))
  absent_proof es key os n h p none =
      let left = left_peers es key os n h p in record {
        absent = ap is_some none;
        peers_from_top = rw (reverse-reverse _) left;
        count = rw (length-reverse _) (left_count _ _ _ left h.ends);
      }

  pub absent_leads : (key x root : List ℕ) (os : List (Option (List ℕ))) (n : ℕ) → AreLeft os n → length os ≤ 256
      → value_above H 0 os x (last_bits key 256) ≡ root → proof_value H (reverse (take n os)) x (last_bits key 256)
      ≡ root
  absent_leads key x root os n h few leads =
      let size : length (take n os) ≤ 256 = let all = length-take n os in omega arith in
      reversed_value H _ x _ (length-last_bits key 256) size ∙ left_value x _ os n h ∙ leads

  -- the way from the root, where there are insertions
  pub last_of_all : (e : List ℕ × List ℕ) (es : List (List ℕ × List ℕ))
      → stands_over H (e ∷ es) [] (last_with (is_below H []) (e ∷ es)) ≡ true
  unfolding last_with
  last_of_all e es = grind arith

  pub version_of_all : (es : List (List ℕ × List ℕ)) → version H es [] ≡ length es
  unfolding last_place
  version_of_all [] = refl
  version_of_all (e ∷ es) = rw (version_of_all es) (grind arith)

pub no_bits : (key : List ℕ) → bits_from key 0 0 ≡ []
unfolding bits_from
no_bits key = refl

pub own_at_root : (H : List ℕ → List ℕ) (bytes_at : List ℕ → ℕ → Option (List ℕ)) (root key : List ℕ) (count : ℕ)
    (es : List (List ℕ × List ℕ)) → count < 2 ^ 64 → ¬ (count ≡ 0) → IsOwnSource H bytes_at root count es
    → IsOwnAt H bytes_at key 0 root count es
own_at_root H bytes_at root key count es fits some own = record {
  pages = own.pages;
  fits = omega arith;
  is_there = rw (no_bits key) (there es own.all);
  is_version = rw (no_bits key, version_of_all H es) (sym own.all);
  is_digest = rw (no_bits key) own.is_root;
}
  where
    there : (es : List (List ℕ × List ℕ)) → length es ≡ count → stands H es [] ≡ true
    there [] n = absurd (some (sym n))
    there (e ∷ es) n = last_of_all H e es

pub whole_way : (H : List ℕ → List ℕ) (root key : List ℕ) (os more : List (Option (List ℕ)))
    (held : Option (ℕ × List ℕ)) → os ≡ more → IsWayDown H key 0 root more held → IsWholeWay H root key os held
whole_way H root key os more held e way = rw e record { few = way.few; leads = way.leads }

pub whole_own : (H : List ℕ → List ℕ) (key : List ℕ) (os more : List (Option (List ℕ))) (held : Option (ℕ × List ℕ))
    (es : List (List ℕ × List ℕ)) → os ≡ more → IsOwnWay H es key 0 more held → IsWholeWayOf H es key os held
whole_own H key os more held es e own = rw e record {
  are_peers = rw (no_bits key) at own.are_peers;
  is_leaf = own.is_leaf;
  is_index = own.is_index;
}

-- where there are none
pub nothing_held : (H : List ℕ → List ℕ) (es : List (List ℕ × List ℕ)) → length es ≡ 0 → (q : List Bool)
    → get (map_of H es) q ≡ None
unfolding last_with
nothing_held H [] n q = last_held H q []
nothing_held H _ n q = absurd (omega arith)

pub empty_way : (H : List ℕ → List ℕ) (root key : List ℕ) (os : List (Option (List ℕ))) → os ≡ []
    → root ≡ empty_root H 256 → IsWholeWay H root key os None
empty_way H root key os e empty = rw e record { few = omega arith; leads = nothing_value H key 256 ∙ sym empty }

pub empty_own : (H : List ℕ → List ℕ) (bytes_at : List ℕ → ℕ → Option (List ℕ)) (root key : List ℕ) (count : ℕ)
    (os : List (Option (List ℕ))) (es : List (List ℕ × List ℕ)) → count ≡ 0 → os ≡ []
    → IsOwnSource H bytes_at root count es → IsWholeWayOf H es key os None
empty_own H bytes_at root key count os es z e own = rw e record {
  are_peers = nothing_end H _ _ (nothing_held H es (own.all ∙ z));
  is_leaf = nothing_held H es (own.all ∙ z) _;
  is_index = tt;
}

pub no_empty_way : (H : List ℕ → List ℕ) (bytes_at : List ℕ → ℕ → Option (List ℕ)) (root : List ℕ) (count : ℕ)
    (es : List (List ℕ × List ℕ)) → count ≡ 0 → ¬ (root ≡ empty_root H 256) → IsOwnSource H bytes_at root count es → ⊥
no_empty_way H bytes_at root count es z other own =
    other (own.is_root ∙ root-same H 256 _ _ (nothing_held H es (own.all ∙ z)) ∙ root-nothing H 256)

-- a peer more is filled
pub presence_more : (H : List ℕ → List ℕ) (os : List (Option (List ℕ))) (at : ℕ) (o : Option (List ℕ)) → at < length os
    → o ≡ get_or os at o
    → (lone_peer H os ++ filled_from H 0 (take at os)) ++ Some (unwrap_or o (empty_root H (255 - at))) ∷ []
    ≡ lone_peer H os ++ filled_from H 0 (take (at + 1) os)
presence_more H os at o lt is =
    let size : 0 + length (take at os) ≡ at = let all = length-take at os in omega arith in
    append_assoc (lone_peer H os) _ _ ∙ ap (λ t. lone_peer H os ++ t)
    (ap (λ n. filled_from H 0 (take at os) ++ Some (unwrap_or o (empty_root H (255 - n))) ∷ []) (sym size)
    ∙ sym (filled_from-push H 0 _ o)
    ∙ ap (filled_from H 0) (ap (λ x. take at os ++ x ∷ []) is ∙ sym (take_more os at o lt)))
