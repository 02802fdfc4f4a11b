-- The digest of a page is the root below its prefix.
use Rattle.std.proofs.Common.{◌≡◌, ℕ, zero, suc, ◌+◌, ◌-◌, ◌*◌, ◌^◌, ◌<◌, Bool, true, false, List, [], ◌∷◌, ◌++◌, length, Option, Some, None, refl, sym, ap, ◌∙◌, arith, append_assoc, length-append}
use Rattle.std.proofs.lemmas.Bool.{false_from_ne_true}
use Rattle.std.specs.Option.{option_map}
use Rattle.std.specs.List.{Contains}
use Rattle.std.specs.FinMap.{get}
use Rattle.warg_crypto.specs.EmptyTrees.{empty_root}
use Rattle.warg_crypto.specs.Tree.{leaf_digest}
use Rattle.warg_map.specs.Bits.{key_bits}
use Rattle.warg_map.specs.Last.{last_with, last_under}
use Rattle.warg_map.specs.Sparse.{root_of_levels, map_of}
use Rattle.warg_map.proofs.ForCallers.{same_bits-true, last_held}
use Rattle.warg_pages.specs.Prefixes.{byte_bits, begins, is_below, below}
use Rattle.warg_pages.specs.Slots.{SlotAt, Ascends, slot_over, slot_of, page_of}
use Rattle.warg_pages.specs.Pages.{digest_at, root_over, slot_height, slot_at, page_digest}
use Rattle.warg_pages.proofs.ByteNumbers.{number, number_below, byte_bits-number}
use Rattle.warg_pages.proofs.KeyPrefixes.{length-bits_from}
use Rattle.warg_pages.proofs.LastPassing.{none_of, none_is}
use Rattle.warg_pages.proofs.NumberedSlots.{HasByte, IsNumbered, digest_of, digest_at-slot, in_slots, from_slots, slots_ascend, slot_at-number}

-- a tree over the roots below all bits of k levels
pub root_over-below : (H : List ℕ → List ℕ) (n k first : ℕ) (digest : ℕ → List ℕ) (held : List Bool → Option (List ℕ))
    → ((q : List Bool) → length q ≡ k → digest (first + number q) ≡ root_of_levels H n (λ r. held (q ++ r)))
    → root_over H digest first k ≡ root_of_levels H (k + n) held
unfolding root_over root_of_levels number
root_over-below H n zero first digest held h =
    let at : first + 0 ≡ first = omega arith in
    let all : zero + n ≡ n = omega arith in
    rw (all, ← at) (h [] refl)
root_over-below H n (suc k) first digest held h =
    let all : suc k + n ≡ suc (k + n) = omega arith in
    rw (
      all,
      root_over-below H n k first digest (λ r. held (false ∷ r)) left,
      root_over-below H n k (first + 2 ^ k) digest (λ r. held (true ∷ r)) right,
    ) refl
  where
    left : (q : List Bool) → length q ≡ k → digest (first + number q) ≡ root_of_levels H n (λ r. held (false ∷ q ++ r))
    left q e = let at : first + (0 + number q) ≡ first + number q = omega arith in rw (← at) (h (false ∷ q) (ap suc e))

    right : (q : List Bool) → length q ≡ k → digest (first + 2 ^ k + number q) ≡ root_of_levels H n
        (λ r. held (true ∷ q ++ r))
    right q e = let at : first + 2 ^ k + number q ≡ first + (2 ^ length q + number q) = rw e (omega arith) in
        rw at (h (true ∷ q) (ap suc e))

-- bits of a prefix and others begin with it
pub begins-append : (p q : List Bool) → begins p (p ++ q) ≡ true
begins-append [] q = refl
begins-append (b ∷ p) q = rw (begins-append p q) (grind arith)

-- bits that do not begin with a prefix do not with a longer one
pub longer : (p q k : List Bool) → begins p k ≡ false → begins (p ++ q) k ≡ false
longer [] q k f = absurd cc
longer (b ∷ p) q [] f = refl
longer (b ∷ p) q (c ∷ k) f = let rest = longer p q k in grind arith

-- where no insertion is below a prefix, nothing is held there
module _ (H : List ℕ → List ℕ) where
  pub none_under : (p q : List Bool) (es : List (List ℕ × List ℕ)) → last_with (is_below H p) es ≡ None
      → last_under H (p ++ q) es ≡ None
  none_under p q es e = none_is _ es (λ x c. false_from_ne_true _ (λ s.
      let under : is_below H p x ≡ true = rw (← same_bits-true (p ++ q) (key_bits H x.0) s) (begins-append p q) in
      let none = none_of (is_below H p) es e c in
      cc))

  pub root-nothing : (k : ℕ) → root_of_levels H k (λ q. None) ≡ empty_root H k
  unfolding root_of_levels empty_root
  root-nothing zero = refl
  root-nothing (suc k) = rw (root-nothing k) refl

  pub root-same : (k : ℕ) (m n : List Bool → Option (List ℕ)) → ((q : List Bool) → m q ≡ n q)
      → root_of_levels H k m ≡ root_of_levels H k n
  root-same k m n h = λ i. root_of_levels H k (λ q. h q i)

  nothing_below : (k : ℕ) (p : List Bool) (es : List (List ℕ × List ℕ)) → last_with (is_below H p) es ≡ None
      → root_of_levels H k (below (map_of H es) p) ≡ empty_root H k
  nothing_below k p es e =
      root-same k (below _ p) _ (λ q. last_held H _ es ∙ ap (option_map (λ (x : List ℕ × List ℕ). leaf_digest H x.1))
      (none_under p q es e)) ∙ root-nothing k

  -- a slot has the root below it
  pub slot_digest : (k : ℕ) (es : List (List ℕ × List ℕ)) (p : List Bool) (s : ℕ) (last : Option (List ℕ × List ℕ))
      → last_with (is_below H p) es ≡ last → 256 - length p ≡ k
      → digest_of H k (slot_over H es p s last) ≡ root_of_levels H k (below (map_of H es) p)
  slot_digest k es p s None e n = sym (nothing_below k p es e)
  slot_digest k es p s (Some x) e n = ap (λ j. root_of_levels H j (below (map_of H es) p)) n

  pub slot_byte : (es : List (List ℕ × List ℕ)) (p : List Bool) (s : ℕ) (last : Option (List ℕ × List ℕ))
      → HasByte s (slot_over H es p s last)
  slot_byte es p s None = tt
  slot_byte es p s (Some x) = refl

-- the slots of a page, by their bytes
module _ (H : List ℕ → List ℕ) (es : List (List ℕ × List ℕ)) (p : List Bool) where
  pub own_byte_is : (t : ℕ) → HasByte t (slot_of H es p t)
  own_byte_is t = slot_byte H es (p ++ byte_bits t) t _

  pub page_ascends : Ascends (page_of H es p)
  unfolding page_of
  page_ascends = slots_ascend (slot_of H es p) own_byte_is 0 256

  pub in_page : (t : ℕ) {x : SlotAt} → t < 256 → slot_of H es p t ≡ Some x → Contains (page_of H es p) x
  unfolding page_of
  in_page t lt is = in_slots (slot_of H es p) own_byte_is 0 256 t (omega arith) (omega arith) is

  pub from_page : (x : SlotAt) → Contains (page_of H es p) x → IsNumbered (slot_of H es p) own_byte_is 0 256 x
  unfolding page_of
  from_page x c = from_slots (slot_of H es p) own_byte_is 0 256 x c

  pub own_slot_at : (s : ℕ) → s < 256 → slot_at (page_of H es p) s ≡ slot_of H es p s
  unfolding page_of
  own_slot_at s lt = slot_at-number (slot_of H es p) own_byte_is 0 256 s (omega arith) (omega arith)

  -- the digest at a byte is the root below the prefix and its bits
  pub page_byte : (depth s : ℕ) → depth < 32 → length p ≡ 8 * depth → s < 256
      → digest_at H (slot_height depth) (page_of H es p) s ≡ root_of_levels H (slot_height depth)
      (λ r. below (map_of H es) p (byte_bits s ++ r))
  page_byte depth s lt n byte =
      let height : 256 - length (p ++ byte_bits s) ≡ slot_height depth =
      rw (length-append p (byte_bits s), n, length-bits_from (s ∷ []) 0 8) (omega arith) in
      rw (digest_at-slot H (slot_height depth) (page_of H es p) s, own_slot_at s byte)
      (slot_digest H (slot_height depth) es (p ++ byte_bits s) s _ refl height
      ∙ root-same H _ _ _ (λ r. ap (get (map_of H es)) (append_assoc p (byte_bits s) r)))

  pub page_slot : (q : List Bool) (depth : ℕ) → depth < 32 → length p ≡ 8 * depth → length q ≡ 8
      → digest_at H (slot_height depth) (page_of H es p) (number q) ≡ root_of_levels H (slot_height depth)
      (λ r. below (map_of H es) p (q ++ r))
  page_slot q depth lt n m = rw (byte_bits-number q m) at
      (page_byte depth (number q) lt n (rw m at (number_below q)))

-- the law
pub page_root : (H : List ℕ → List ℕ) (es : List (List ℕ × List ℕ)) (p : List Bool) (depth : ℕ) → depth < 32
    → length p ≡ 8 * depth
    → page_digest H depth (page_of H es p) ≡ root_of_levels H (256 - 8 * depth) (below (map_of H es) p)
page_root H es p depth lt n =
    let all : 8 + slot_height depth ≡ 256 - 8 * depth = omega arith in
    root_over-below H (slot_height depth) 8 0 (digest_at H (slot_height depth) (page_of H es p)) (below (map_of H es) p)
    (λ q m. let at : 0 + number q ≡ number q = omega arith in rw at (page_slot H es p q depth lt n m))
    ∙ ap (λ k. root_of_levels H k (below (map_of H es) p)) all
