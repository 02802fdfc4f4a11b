-- Pages of other digests than the empty map's, of which no placed byte strings collide.
use Rattle.warg_pages.proofs.KeyPrefixes.{length-bits_from}
use Rattle.warg_map.specs.Bits.{key_bits, bits_from}
use Rattle.warg_map.proofs.ForCallers.{all_bits, last_held, same_bits-itself, same_bits-true}
use Rattle.std.specs.FinMap.{get}
use Rattle.std.proofs.Common.{◌≡◌, ℕ, zero, suc, ◌+◌, ◌-◌, ◌*◌, ◌^◌, ◌<◌, ◌==◌, ◌⊎◌, inl, inr, Bool, true, false, List, [], ◌∷◌, ◌++◌, length, take, drop, Option, Some, None, if◌then◌else◌, refl, sym, ap, subst, ◌∙◌, arith, append-nil, unwrap_or}
use Rattle.std.specs.Prelude.{replicate}
use Rattle.std.proofs.lemmas.Bool.{cases_lt, false_from_ne_true}
use Rattle.std.proofs.lemmas.List.{take-append-drop, length-append, length-take-le}
use Rattle.std.proofs.lemmas.List.Elements.{All-replicate, All-cons, All-nil}
use Rattle.std.proofs.Math.Nat.{pow-suc}
use Rattle.warg_crypto.proofs.ForCallers.{zeros, ones, ones_are, marked}
use Rattle.warg_crypto.specs.Collisions.{GivesHashes, Collides, SomeCollision}
use Rattle.warg_crypto.specs.Digests.{IsDigest, IsByte}
use Rattle.warg_crypto.specs.EmptyTrees.{empty_root}
use Rattle.warg_crypto.specs.Tree.{branch_input}
use Rattle.warg_map.specs.Last.{last_with, same_bits}
use Rattle.warg_map.specs.Sparse.{root_of_levels, map_of}
use Rattle.warg_pages.specs.Prefixes.{below, begins, byte_bits, last_place}
use Rattle.warg_pages.specs.Slots.{SlotAt, IsSlot, IsPage, slot_of, numbers, page_of}
use Rattle.warg_pages.specs.Pages.{digest_at, root_over, slot_height, page_digest}
use Rattle.warg_pages.specs.GivenPages.{HaveSameDigests, AreInputsAt, input_over}
use Rattle.warg_pages.proofs.Members.{none_of_each}
use Rattle.warg_pages.proofs.PageRoots.{page_root}
use Rattle.warg_pages.proofs.SlotRanges.{digest_other}

-- The page of the empty map has no slots.
pub empty_page : (H : List ℕ → List ℕ) → page_of H [] [] ≡ []
unfolding page_of last_with
empty_page H = none_of_each (slot_of H [] []) (numbers 0 256) (λ s. refl)

pub empty_digest : (H : List ℕ → List ℕ) → page_digest H 0 [] ≡ root_of_levels H 256 (below (map_of H []) [])
empty_digest H = ap (page_digest H 0) (sym (empty_page H)) ∙ page_root H [] [] 0 (omega arith) refl

module _ (H : List ℕ → List ℕ) (slots : List SlotAt) where
  -- A page with these slots and one without any have the same input at each branch of a level.
  abbrev pub Same : ℕ → Type 0
  Same k = (place first : ℕ) → first ≡ place * (2 ^ k + 2 ^ k)
      → input_over H 0 slots first k ≡ input_over H 0 [] first k

  -- So they have on the next level.
  above : (k : ℕ) → Same k → Same (suc k)
  unfolding root_over
  above k same place first from =
      let double = ap (λ p. place * p) (pow-suc 2 k) in
      let left = same (2 * place) first (omega arith) in
      let right = same (2 * place + 1) (first + 2 ^ suc k) (omega arith) in
      rw left (ap (λ r. branch_input (root_over H (digest_at H (slot_height 0) []) first (suc k)) (H r)) right)

  pub from_level : (j d : ℕ) → Same j → Same (d + j)
  from_level j zero same = let none : 0 + j ≡ j = omega arith in subst Same (sym none) same
  from_level j (suc d) same = let next : suc d + j ≡ suc (d + j) = omega arith in
      rw next (above _ (from_level j d same))

  pub same_digest : Same 7 → page_digest H 0 slots ≡ page_digest H 0 []
  unfolding root_over
  same_digest same = ap H (same 0 0 (omega arith))

abbrev pub slot : ℕ → List ℕ → SlotAt
slot byte digest = record { byte = byte; version = 0; digest = digest; lone = None }

-- Halves of two empty digests that end elsewhere.
module _ (H : List ℕ → List ℕ) (gives : GivesHashes H) where
  abbrev pair : List ℕ
  pair = empty_root H 248 ++ empty_root H 248

  abbrev pub cut_elsewhere : List SlotAt
  cut_elsewhere = slot 0 (take 31 pair) ∷ slot 1 (drop 31 pair) ∷ []

  size_empty : (k : ℕ) → length (empty_root H k) ≡ 32
  unfolding empty_root
  size_empty zero = (gives _).has_32
  size_empty (suc k) = (gives _).has_32

  two_cut : (place : ℕ) (first : ℕ) → first ≡ place * 2
      → input_over H 0 cut_elsewhere first 0 ≡ input_over H 0 [] first 0
  unfolding root_over digest_at
  two_cut zero first from = let at : first ≡ 0 = omega arith in
      rw at (ap (λ bytes. 1 ∷ bytes) (take-append-drop 31 pair))
  two_cut (suc place) first from =
      let here : digest_at H 248 cut_elsewhere first ≡ empty_root H 248 =
      digest_other H 248 (slot 0 (take 31 pair)) (slot 1 (drop 31 pair) ∷ []) first (omega arith)
      ∙ digest_other H 248 (slot 1 (drop 31 pair)) [] first (omega arith) in
      let next : digest_at H 248 cut_elsewhere (first + 1) ≡ empty_root H 248 =
      digest_other H 248 (slot 0 (take 31 pair)) (slot 1 (drop 31 pair) ∷ []) (first + 1) (omega arith)
      ∙ digest_other H 248 (slot 1 (drop 31 pair)) [] (first + 1) (omega arith) in
      rw (here, next) refl

  cut_same : Same H cut_elsewhere 0
  cut_same place first from = two_cut place first (omega arith)

  pub cut_digest : page_digest H 0 cut_elsewhere ≡ page_digest H 0 []
  cut_digest = same_digest H cut_elsewhere (from_level H cut_elsewhere 0 7 cut_same)

  pub cut_apart : (one other : List ℕ) → AreInputsAt H 0 cut_elsewhere [] one other → Collides H (one, other) → ⊥
  cut_apart one other at c =
      let level : at.levels + 0 ≡ at.levels = omega arith in
      let same : Same H cut_elsewhere at.levels =
      rw level at (from_level H cut_elsewhere 0 at.levels cut_same) in
      c.differ (at.one_is ∙ same at.place at.first at.aligned ∙ sym at.other_is)

  pub cut_differs : HaveSameDigests H 0 cut_elsewhere [] → ⊥
  unfolding digest_at
  cut_differs same =
      omega (
        arith,
        ap length (same 0 (omega arith)),
        size_empty 248,
        length-take-le 31 pair (omega (arith, length-append (empty_root H 248) (empty_root H 248), size_empty 248)),
      )

pub empty_zeros : (k : ℕ) → empty_root marked k ≡ zeros
unfolding empty_root
empty_zeros zero = refl
empty_zeros (suc k) = rw (empty_zeros k) refl

-- A page with ones at the first byte.
abbrev pub with_ones : List SlotAt
with_ones = slot 0 ones ∷ []

pub first_ones : (height k : ℕ) → root_over marked (digest_at marked height with_ones) 0 k ≡ ones
unfolding root_over digest_at
first_ones height zero = refl
first_ones height (suc k) = rw (first_ones height k) refl

pub first_zeros : (height first k : ℕ) → root_over marked (digest_at marked height []) first k ≡ zeros
unfolding root_over digest_at
first_zeros height first zero = empty_zeros height
first_zeros height first (suc k) = rw (first_zeros height first k, first_zeros height (first + 2 ^ k) k) refl

-- Beside the first byte nothing stands.
other_same : (height first k : ℕ) → 0 < first → root_over marked (digest_at marked height with_ones) first k
    ≡ root_over marked (digest_at marked height []) first k
unfolding root_over
other_same height first zero some = digest_other marked height _ [] first (omega arith)
other_same height first (suc k) some =
    rw (other_same height first k some, other_same height (first + 2 ^ k) k (omega arith)) refl

pub ones_apart : (depth : ℕ) (one other : List ℕ) → AreInputsAt marked depth with_ones [] one other
    → Collides marked (one, other) → ⊥
ones_apart depth one other at c =
    let height = slot_height depth in
    elim (cases_lt 0 at.first) [
      | inl some ↦
          let left = other_same height at.first at.levels some in
          let right = other_same height (at.first + 2 ^ at.levels) at.levels (omega arith) in
          c.differ (at.one_is ∙ rw (left, right) refl ∙ sym at.other_is)
      | inr none ↦
          let zero_first : at.first ≡ 0 = omega arith in
          let is : marked one ≡ ones = rw at.one_is (rw (zero_first, first_ones height at.levels) refl) in
          let left = first_zeros height at.first at.levels in
          let right = first_zeros height (at.first + 2 ^ at.levels) at.levels in
          let isnt : marked other ≡ zeros = rw at.other_is (rw (left, right) refl) in
          absurd cc
    ]

pub ones_differ : (depth : ℕ) → HaveSameDigests marked depth with_ones [] → ⊥
unfolding digest_at
ones_differ depth same = let wrong : ones ≡ zeros = same 0 (omega arith) ∙ empty_zeros _ in absurd cc

-- A map with one key, whose leaf has ones: at the key's own bits as a prefix no page has a slot, and the root is the
-- leaf.
abbrev pub lone_key : List (List ℕ × List ℕ)
lone_key = ([], 1 ∷ []) ∷ []

abbrev pub lone_bits : List Bool
lone_bits = key_bits marked []

begins_longer : (p q : List Bool) → 0 < length q → begins (p ++ q) p ≡ false
begins_longer [] [] some = absurd (omega arith)
begins_longer [] (b ∷ q) some = refl
begins_longer (b ∷ p) q some = rw (begins_longer p q some) (grind arith)

none_at_byte : (s : ℕ) → slot_of marked lone_key lone_bits s ≡ None
unfolding last_with
none_at_byte s =
    let longer = begins_longer lone_bits (byte_bits s) (omega (arith, length-bits_from (s ∷ []) 0 8)) in
    rw longer refl

pub lone_page : page_of marked lone_key lone_bits ≡ []
unfolding page_of
lone_page = none_of_each (slot_of marked lone_key lone_bits) (numbers 0 256) none_at_byte

lone_held : get (map_of marked lone_key) (lone_bits ++ []) ≡ Some ones
unfolding last_with
lone_held = last_held marked (lone_bits ++ []) lone_key ∙ rw (append-nil, same_bits-itself lone_bits) refl

pub lone_root : page_digest marked 32 with_ones ≡ root_of_levels marked 0 (below (map_of marked lone_key) lone_bits)
unfolding root_of_levels
lone_root = first_ones 0 8 ∙ sym (ap (λ o. unwrap_or o (empty_root marked 0)) lone_held)

pub lone_length : length lone_bits ≡ 8 * 32
lone_length = all_bits marked []

-- One five, two or three of them, by the second byte of what is hashed.
abbrev pub fives : List ℕ → List ℕ
fives [] = 5 ∷ 5 ∷ []
fives (tag ∷ []) = 5 ∷ 5 ∷ []
fives (tag ∷ b ∷ rest) = if b == 1 then 5 ∷ [] else (if b == 2 then 5 ∷ 5 ∷ 5 ∷ [] else 5 ∷ 5 ∷ [])

abbrev twos : List ℕ
twos = replicate 32 2

pub twos-digest : IsDigest twos
twos-digest = record { has_32 = refl; are_bytes = All-replicate IsByte 32 2 (omega arith) }

abbrev pub with_both : List SlotAt
with_both = slot 0 ones ∷ slot 2 twos ∷ []

empty_fives : (k : ℕ) → empty_root fives k ≡ 5 ∷ 5 ∷ []
unfolding empty_root
empty_fives zero = refl
empty_fives (suc k) = rw (empty_fives k) refl

beside_both : (first : ℕ) → 3 < first + 1 → digest_at fives 248 with_both first ≡ digest_at fives 248 [] first
beside_both first far = digest_other fives 248 _ _ first (omega arith) ∙ digest_other fives 248 _ [] first (omega arith)

four_same : (place first : ℕ) → first ≡ place * 4 → input_over fives 0 with_both first 1 ≡ input_over fives 0 [] first 1
unfolding root_over digest_at
four_same zero first from = let at : first ≡ 0 = omega arith in rw (at, empty_fives 248) refl
four_same (suc place) first from =
    rw (
      beside_both first (omega arith),
      beside_both (first + 1) (omega arith),
      beside_both (first + 2) (omega arith),
      beside_both (first + 2 + 1) (omega arith),
    ) refl

both_same : Same fives with_both 1
both_same place first from = four_same place first (omega arith)

pub both_digest : page_digest fives 0 with_both ≡ page_digest fives 0 []
both_digest = same_digest fives with_both (from_level fives with_both 1 6 both_same)

-- At two bytes from the first or the third on the inputs' digests differ, and elsewhere the inputs are the same.
two_apart : (place first : ℕ) → first ≡ place * 2
    → (input_over fives 0 with_both first 0 ≡ input_over fives 0 [] first 0)
    ⊎ (fives (input_over fives 0 with_both first 0) ≡ fives (input_over fives 0 [] first 0) → ⊥)
unfolding root_over digest_at
two_apart zero first from = let at : first ≡ 0 = omega arith in rw (at, empty_fives 248) (inr (λ is. absurd cc))
two_apart (suc zero) first from = let at : first ≡ 2 = omega arith in rw (at, empty_fives 248) (inr (λ is. absurd cc))
two_apart (suc (suc place)) first from =
    inl (rw (beside_both first (omega arith), beside_both (first + 1) (omega arith)) refl)

pub both_apart : (one other : List ℕ) → AreInputsAt fives 0 with_both [] one other → Collides fives (one, other) → ⊥
both_apart one other at c = elim (cases_lt 0 at.levels) [
  | inr low ↦
      let level : at.levels ≡ 0 = omega arith in
      let from : at.first ≡ at.place * 2 = rw level at at.aligned ∙ omega arith in
      let one_is = rw level at at.one_is in
      let other_is = rw level at at.other_is in
      elim (two_apart at.place at.first from) [
        | inl same ↦ c.differ (one_is ∙ same ∙ sym other_is)
        | inr differ ↦ differ (rw (← one_is) (c.same ∙ ap fives other_is))
      ]
  | inl high ↦
      let level : at.levels - 1 + 1 ≡ at.levels = omega arith in
      let same : Same fives with_both at.levels =
      rw level at (from_level fives with_both 1 (at.levels - 1) both_same) in
      c.differ (at.one_is ∙ same at.place at.first at.aligned ∙ sym at.other_is)
]

pub both_differ : HaveSameDigests fives 0 with_both [] → ⊥
unfolding digest_at
both_differ same = let wrong : ones ≡ 5 ∷ 5 ∷ [] = same 0 (omega arith) ∙ empty_fives 248 in absurd cc

-- They are pages.
is_slot : (byte : ℕ) (digest : List ℕ) → byte < 256 → IsDigest digest → IsSlot (slot byte digest)
is_slot byte digest low is = record { is_byte = low; fits = omega arith; digest = is; lone = λ l is. absurd cc }

pub ones_page : IsPage with_ones
ones_page = record {
  ascend = λ i j d order inside. absurd (omega arith);
  are_slots = All-cons IsSlot (slot 0 ones) [] (is_slot 0 ones (omega arith) ones_are) (All-nil IsSlot);
}

pub both_page : IsPage with_both
both_page = record {
  ascend = λ i j d order inside. let first : i ≡ 0 = omega arith in let second : j ≡ 1 = omega arith in
      rw (first, second) (omega arith);
  are_slots =
      All-cons IsSlot (slot 0 ones) (slot 2 twos ∷ []) (is_slot 0 ones (omega arith) ones_are)
      (All-cons IsSlot (slot 2 twos) [] (is_slot 2 twos (omega arith) twos-digest) (All-nil IsSlot));
}

-- The lone key's page at the empty prefix, with the digest of its slot.
abbrev pub lone_slot : List ℕ → SlotAt
lone_slot digest = record { byte = 0; version = 1; digest = digest; lone = Some (zeros, ones) }

abbrev slot_root : List ℕ
slot_root = root_of_levels marked 248 (below (map_of marked lone_key) (byte_bits 0))

top_page : page_of marked lone_key [] ≡ lone_slot slot_root ∷ []
unfolding page_of numbers last_with last_place bits_from
top_page = refl

-- It has ones, as its key's bits are all false.
pub left_root : (k : ℕ) (held : List Bool → Option (List ℕ)) → held (replicate k false) ≡ Some ones
    → root_of_levels marked k held ≡ ones
unfolding root_of_levels
left_root zero held is = ap (λ o. unwrap_or o (empty_root marked 0)) is
left_root (suc k) held is = rw (left_root k (λ q. held (false ∷ q)) is) refl

bits_are : byte_bits 0 ++ replicate 248 false ≡ lone_bits
unfolding bits_from
bits_are = refl

pub lone_here : get (map_of marked lone_key) lone_bits ≡ Some ones
unfolding last_with
lone_here = last_held marked lone_bits lone_key ∙ rw (same_bits-itself lone_bits) refl

slot_ones : slot_root ≡ ones
slot_ones =
    left_root 248 (below _ _) (rw bits_are lone_here)

-- At eight bits nothing is held, so there the root is that of an empty tree.
none_root : (k : ℕ) (held : List Bool → Option (List ℕ)) → ((q : List Bool) → length q ≡ k → held q ≡ None)
    → root_of_levels marked k held ≡ zeros
unfolding root_of_levels
none_root zero held none = rw (none [] refl) (empty_zeros 0)
none_root (suc k) held none =
    let left = none_root k (λ q. held (false ∷ q)) (λ q len. none _ (omega arith)) in
    let right = none_root k (λ q. held _) (λ q len. none (true ∷ q) (omega arith)) in
    rw (left, right) refl

short_none : (q : List Bool) → length q ≡ 8 → get (map_of marked lone_key) q ≡ None
unfolding last_with
short_none q len =
    let other : same_bits q lone_bits ≡ false =
    false_from_ne_true _ (λ e. omega (arith, ap length (same_bits-true q lone_bits e), all_bits marked [], len)) in
    last_held marked q lone_key ∙ rw other refl

pub short_root : page_digest marked 31 [] ≡ root_of_levels marked 8 (below (map_of marked lone_key) [])
short_root = first_zeros 0 0 8 ∙ sym (none_root 8 (below _ []) short_none)

as_ones : (first k : ℕ) → input_over marked 31 (lone_slot ones ∷ []) first k ≡ input_over marked 31 with_ones first k
unfolding digest_at
as_ones first k = refl

slot_input : (first k : ℕ)
    → input_over marked 31 (lone_slot slot_root ∷ []) first k ≡ input_over marked 31 with_ones first k
slot_input first k = rw slot_ones (as_ones first k)

pub top_differs : HaveSameDigests marked 31 [] (page_of marked lone_key []) → ⊥
unfolding digest_at
top_differs all =
    let same = rw top_page at all in
    let wrong : ones ≡ zeros = sym slot_ones ∙ sym (same 0 (omega arith)) ∙ empty_zeros 0 in absurd cc

pub top_apart : SomeCollision marked (AreInputsAt marked 31 [] (page_of marked lone_key [])) → ⊥
top_apart c =
    let found = rw top_page at c in
    let at = found.placed in
    ones_apart 31 found.second found.first
    (record {
      first = at.first;
      levels = at.levels;
      place = at.place;
      aligned = at.aligned;
      in_page = at.in_page;
      one_is = at.other_is ∙ slot_input at.first at.levels;
      other_is = at.one_is;
    })
    (record { differ = λ is. found.collide.differ (sym is); same = sym found.collide.same })

pub no_page : IsPage []
no_page = record { ascend = λ i j d order inside. absurd (omega arith); are_slots = All-nil IsSlot }
