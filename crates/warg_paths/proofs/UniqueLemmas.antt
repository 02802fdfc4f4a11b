-- Two paths of one place to one root.
use Rattle.std.proofs.Common.{◌≡◌, ◌⊎◌, inl, inr, Bool, true, false, ℕ, zero, suc, ◌+◌, ◌-◌, ◌^◌, ◌<◌, ◌≤◌, List, [], ◌∷◌, ◌++◌, length, reverse, Option, Some, None, refl, sym, ap, ◌∙◌, arith}
use Rattle.std.specs.List.{AllByRecursion}
use Rattle.std.proofs.Math.Nat.{pow-le-pow_right}
use Rattle.std.proofs.lemmas.Bool.{lt-ltb, le-ltb, cases_lt}
use Rattle.std.proofs.lemmas.List.{reverse-reverse, reverse-append, length-append}
use Rattle.warg_crypto.specs.Collisions.{AreHashes, SomeCollision}
use Rattle.warg_log.specs.Ranges.{Range, leaves_from, front_part, rest_part}
use Rattle.warg_log.specs.Tree.{front_of}
use Rattle.warg_log.proofs.ForCallers.{front_is_greatest, pow_below_pow}
use Rattle.warg_paths.specs.Paths.{beside, inclusion_over, inclusion_of, inclusion_root, root_down, path_at_end, consistency_over, consistency_of, path_within}
use Rattle.warg_paths.specs.Ways.{IsOnWay, ArePathInputs, is_right, leaf_in, count_in, start_in}
use Rattle.warg_paths.specs.Ways.IsOnWay.{whole as way_whole}
use Rattle.warg_paths.proofs.TurnLemmas.{turns_meet, at_leaf, one_or_more, led_down, taken_at, way_in}
use Rattle.warg_paths.proofs.MakeLemmas.{inclusion_one, inclusion_front, inclusion_rest, consistency_end, consistency_front, consistency_rest}

-- a path with a digest above it has one more
one_above : (h : ℕ) (path : Option (List (List ℕ))) (top : Option (List ℕ)) (whole : List (List ℕ))
    → beside path top ≡ Some whole → ((below : List (List ℕ)) → path ≡ Some below → length below ≤ h)
    → length whole ≤ suc h
one_above h None top whole is few = absurd cc
one_above h (Some below) None whole is few = absurd cc
one_above h (Some below) (Some last) whole is few = grind (arith, length-append)

-- the parts of at most 2 ^ (h + 1) leaves have at most 2 ^ h
parts_low : (h n : ℕ) → 1 < n → n ≤ 2 ^ suc h → (front_of n ≤ 2 ^ h) × (n - front_of n ≤ 2 ^ h)
parts_low h n more most = grind (arith, front_is_greatest, pow_below_pow, pow-le-pow_right)

-- the empty path has no digest, and so the path of one leaf, or of none
none_short : (h : ℕ) (path : List (List ℕ)) → Some [] ≡ Some path → length path ≤ h
none_short h path is = let none : [] ≡ path = cc in omega (arith, ap length none)

short_few : (R : Range → Option (List ℕ)) (h m : ℕ) (r : Range) (path : List (List ℕ)) → r.count ≤ 1
    → inclusion_over R m r ≡ Some path → length path ≤ h
unfolding path_within
short_few R h m r path few is = grind (arith, none_short, cases_lt, inclusion_one)

-- a path has at most as many digests as the exponent of a power of two that isn't below the count
short_over : (R : Range → Option (List ℕ)) (h m : ℕ) (r : Range) (path : List (List ℕ)) → r.count ≤ 2 ^ h
    → inclusion_over R m r ≡ Some path → length path ≤ h
short_over R zero m r path most is = short_few R zero m r path (omega arith) is
short_over R (suc h) m r path most is = elim (cases_lt 1 r.count) [
  | inr few ↦ short_few R (suc h) m r path (omega arith) is
  | inl more ↦
      let low = parts_low h r.count more most in
      elim (cases_lt m (front_of r.count)) [
        | inl front ↦ one_above h _ _ path (sym (inclusion_front R m r more front) ∙ is)
            (λ below. short_over R h m (front_part r) below low.0)
        | inr rest ↦ one_above h _ _ path (sym (inclusion_rest R m r more rest) ∙ is)
            (λ below. short_over R h (m - front_of r.count) (rest_part r) below low.1)
      ]
]

pub short : (R : Range → Option (List ℕ)) (m n h : ℕ) (path : List (List ℕ)) → n ≤ 2 ^ h
    → inclusion_of R m n ≡ Some path → length path ≤ h
short R m n h path = short_over R h m (leaves_from 0 n) path

-- the path over leaves that are all old has at most one digest
short_end : (R : Range → Option (List ℕ)) (whole : Bool) (r : Range) (path : List (List ℕ)) → path_at_end R whole r
    ≡ Some path → length path ≤ 1
short_end R true r path is = none_short 1 path is
short_end R false r path is = one_above 0 (Some []) (R r) path is (none_short 0)

-- a path from some leaves to at most 2 ^ h has at most h + 1 digests
short_growth : (R : Range → Option (List ℕ)) (h : ℕ) (whole : Bool) (m : ℕ) (r : Range) (path : List (List ℕ)) → 0 < m
    → m ≤ r.count → r.count ≤ 2 ^ h → consistency_over R whole m r ≡ Some path → length path ≤ h + 1
short_growth R zero whole m r path some order most is = grind (arith, short_end, consistency_end)
short_growth R (suc h) whole m r path some order most is = elim (cases_lt m r.count) [
  | inr all ↦
      let same : m ≡ r.count = omega (arith, all, order) in
      omega (arith, short_end R whole r path (sym (consistency_end R whole m r some same) ∙ is))
  | inl more ↦
      let low = parts_low h r.count (omega (arith, some, more)) most in
      elim (cases_lt (front_of r.count) m) [
        | inr front ↦ omega (
          arith,
          one_above (h + 1) _ _ path (sym (consistency_front R whole m r some more front)
              ∙ is) (λ below. short_growth R h whole m (front_part r) below some front low.0),
        )
        | inl rest ↦ omega (
          arith,
          one_above (h + 1) _ _ path (sym (consistency_rest R whole m r more rest) ∙ is)
              (λ below. short_growth R h false (m - front_of r.count) (rest_part r) below (omega (arith, rest))
              (omega (arith, order)) low.1),
        )
      ]
]

pub growth_is_short : (R : Range → Option (List ℕ)) (m n h : ℕ) (path : List (List ℕ)) → 0 < m → m ≤ n → n ≤ 2 ^ h
    → consistency_of R m n ≡ Some path → length path ≤ h + 1
growth_is_short R m n h path = short_growth R h true m (leaves_from 0 n) path

pub cons_same : {c d : List ℕ} {cs ds : List (List ℕ)} → c ≡ d → cs ≡ ds → (c ∷ cs) ≡ (d ∷ ds)
cons_same {c = c} {ds = ds} e f = ap (λ hs. c ∷ hs) f ∙ ap (λ h. h ∷ ds) e

-- two ways down to one root come from one digest along one path, or collide at one range
module _ (H : List ℕ → List ℕ) (index count : ℕ) (x y : List ℕ) (path other : List (List ℕ)) where
  abbrev Alike : List (List ℕ) → List (List ℕ) → Type 0
  Alike xs ys = ((x ≡ y) × (xs ≡ ys)) ⊎ SomeCollision H (ArePathInputs H index count x path y other)

  down : (m a n : ℕ) (root : List ℕ) (xs ys : List (List ℕ)) → AreHashes xs → AreHashes ys
      → IsOnWay index 0 count (reverse path) m a n xs → IsOnWay index 0 count (reverse other) m a n ys
      → root_down H m n x xs ≡ Some root → root_down H m n y ys ≡ Some root → Alike xs ys
  down m a n root [] [] ax ay wx wy ex ey =
      inl ((at_leaf H m n x root ex).1 ∙ sym (at_leaf H m n y root ey).1, refl)
  down m a n root [] (u ∷ us) ax ay wx wy ex ey = absurd (one_or_more H m n x y root root u us ex ey)
  down m a n root (t ∷ ts) [] ax ay wx wy ex ey = absurd (one_or_more H m n y x root root t ts ey ex)
  down m a n root (t ∷ ts) (u ∷ us) ax ay wx wy ex ey =
      let (p, more, p_led, p_root) = led_down H m n x root t ts ex in
      let (q, _, q_led, q_root) = led_down H m n y root u us ey in
      elim (turns_meet H (ArePathInputs H index count x path y other) (is_right m n) (ax.0 ∙ sym ay.0) p_root q_root
      (grind (arith, taken_at))) [
        | inr collision ↦ inr collision
        | inl same ↦ elim
            (down (leaf_in m n) (start_in m a n) (count_in m n) p ts us ax.1 ay.1 (way_in more wx) (way_in more wy) p_led
            (q_led ∙ ap Some (sym same.1))) [
              | inr collision ↦ inr collision
              | inl below ↦ inl
                  (below.0, cons_same same.0 below.1)
            ]
      ]

-- all of a list's elements, in the other order
pub turned : (P : List ℕ → Type 0) (ds : List (List ℕ)) → AllByRecursion P ds → AllByRecursion P (reverse ds)
turned P [] all = tt
turned P (d ∷ ds) all = rw (reverse-append (d ∷ []) ds) (both (reverse ds) (turned P ds all.1) all.0)
  where
    both : (hs : List (List ℕ)) → AllByRecursion P hs → P d → AllByRecursion P (hs ++ d ∷ [])
    both [] hold last = (last, tt)
    both (h ∷ hs) hold last = (hold.0, both hs hold.1 last)

pub unique : (H : List ℕ → List ℕ) (m n : ℕ) (x y root : List ℕ) (xs ys : List (List ℕ)) → AreHashes xs → AreHashes ys
    → inclusion_root H m n x xs ≡ Some root → inclusion_root H m n y ys ≡ Some root → ((x ≡ y) × (xs ≡ ys))
    ⊎ SomeCollision H (ArePathInputs H m n x xs y ys)
unique H m n x y root xs ys ax ay ex ey = elim (cases_lt m n) [
  | inr outside ↦ let none : None ≡ Some root = rw (le-ltb m n outside) at ex in absurd (cc)
  | inl inside ↦
      elim (down H m n x y xs ys m 0 n root (reverse xs) (reverse ys) (turned _ xs ax)
      (turned _ ys ay) way_whole way_whole (rw (lt-ltb m n inside) at ex) (rw (lt-ltb m n inside) at ey)) [
        | inr collision ↦ inr collision
        | inl same ↦ inl (same.0, sym (reverse-reverse xs) ∙ ap reverse same.1 ∙ reverse-reverse ys)
      ]
]
