-- The way down through the pages of insertions.
use Rattle.std.proofs.Common.{◌≡◌, ℕ, ◌+◌, ◌-◌, ◌*◌, ◌/◌, ◌<◌, ◌≤◌, Bool, true, not, ◌||◌, eqb, List, [], ◌∷◌, ◌++◌, length, take, get_or, Option, Some, None, refl, sym, ap, ◌∙◌, arith, append_assoc}
use Rattle.std.proofs.lemmas.List.{get_or-take, length-take}
use Rattle.std.specs.Bool.{then_some}
use Rattle.std.specs.FinMap.{get}
use Rattle.warg_crypto.specs.Tree.{leaf_digest}
use Rattle.warg_map.specs.Bits.{bit_at, bits_from}
use Rattle.warg_map.specs.Last.{last_with}
use Rattle.warg_map.specs.Sparse.{root_of_levels, map_of}
use Rattle.warg_pages.specs.Prefixes.{bits_of_bytes, byte_bits, is_below, below, version}
use Rattle.warg_pages.specs.Slots.{SlotAt, is_lone, slot_over, slot_of, page_of}
use Rattle.warg_pages.specs.Pages.{slot_height}
use Rattle.warg_pages.specs.OwnPages.{stands}
use Rattle.warg_pages.specs.Private.Descents.{peers_below}
use Rattle.warg_pages.proofs.LoneSlots.{some_same}
use Rattle.warg_pages.proofs.HeldHalves.{half_peer}
use Rattle.warg_pages.proofs.ValuesAbove.{PeersAbove}
use Rattle.warg_pages.proofs.KeyPrefixes.{bits_from-append, bits_from-same, byte_at_depth}

-- the peers of a page are those of the map
pub own_peers_below : (H : List ℕ → List ℕ) (es : List (List ℕ × List ℕ)) (p before after : List Bool) (depth s : ℕ)
    → depth < 32 → length p ≡ 8 * depth → s < 256 → byte_bits s ≡ before ++ after
    → PeersAbove H (slot_height depth) (λ q. get (map_of H es) (p ++ (before ++ q))) after
    (peers_below H depth (page_of H es p) s (length after))
unfolding peers_below
own_peers_below H es p before [] depth s lt n byte e = tt
own_peers_below H es p before (b ∷ after) depth s lt n byte e = (
  half_peer H es p before after b depth s lt n byte e,
  rw same at (own_peers_below H es p (before ++ b ∷ []) after depth s lt n byte
      (e ∙ sym (append_assoc before _ after))),
)
  where
    same : ◌≡◌ {A = List Bool → Option (List ℕ)} (λ q. get (map_of H es) (p ++ ((before ++ b ∷ []) ++ q)))
        (λ q. get (map_of H es) (p ++ (before ++ b ∷ q)))
    same = λ i q. get (map_of H es) (p ++ append_assoc before (b ∷ []) q i)

-- what an own slot says
pub record OwnSlot (H : List ℕ → List ℕ) (es : List (List ℕ × List ℕ)) (p : List Bool) (x : SlotAt) : Type 0 where
  pub version : x.version ≡ version H es p
  pub digest : x.digest ≡ root_of_levels H (256 - length p) (below (map_of H es) p)
  pub page : x.lone ≡ None → stands H es p ≡ true

pub own_slot_over : (H : List ℕ → List ℕ) (es : List (List ℕ × List ℕ)) (p : List Bool) (s : ℕ)
    (last : Option (List ℕ × List ℕ)) (x : SlotAt) → last_with (is_below H p) es ≡ last → slot_over H es p s last
    ≡ Some x → OwnSlot H es p x
own_slot_over H es p s None x l e = absurd cc
own_slot_over H es p s (Some f) x l e = record {
  version = sym (ap (λ (y : SlotAt). y.version) (some_same e));
  digest = sym (ap (λ (y : SlotAt). y.digest) (some_same e));
  page = λ none. rw l (several (is_lone H es p f) (cc));
}
  where
    several : (b : Bool) → then_some {T = List ℕ × List ℕ} b (H f.0, leaf_digest H f.1) ≡ None
        → (eqb (length p) 0 || not b) ≡ true
    several b none = grind arith

pub own_slot_is : (H : List ℕ → List ℕ) (es : List (List ℕ × List ℕ)) (p : List Bool) (s : ℕ) (x : SlotAt)
    → slot_of H es p s ≡ Some x → OwnSlot H es (p ++ byte_bits s) x
own_slot_is H es p s x e = own_slot_over H es _ s _ x refl e

-- the bits of the first bytes
pub bits_of_taken : (k : List ℕ) (depth : ℕ) → depth ≤ length k → bits_of_bytes (take depth k)
    ≡ bits_from k 0 (8 * depth)
bits_of_taken k depth le =
    let size : length (take depth k) ≡ depth = let all = length-take depth k in omega arith in
    rw size (bits_from-same _ k 0 0 _ same)
  where
    same : (m : ℕ) → m < 8 * depth → bit_at (take depth k) (0 + m) ≡ bit_at k (0 + m)
    same m lt =
        let at : 0 + m ≡ m = omega arith in
        let low : m / 8 < depth = omega arith in
        rw (at, get_or-take depth k _ 0 low) refl

-- a byte more
pub prefix_more : (k : List ℕ) (depth : ℕ) → bits_from k 0 (8 * (depth + 1)) ≡ bits_from k 0 (8 * depth) ++ byte_bits
    (get_or k depth 0)
prefix_more k depth =
    let all : 8 * (depth + 1) ≡ 8 * depth + 8 = omega arith in
    let at : 0 + 8 * depth ≡ 8 * depth = omega arith in
    rw (all, bits_from-append k 0 (8 * depth) 8, at, byte_at_depth k depth) refl
