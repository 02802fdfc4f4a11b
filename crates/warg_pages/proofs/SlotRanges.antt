-- Trees over some of a page's slots.
use Rattle.std.proofs.Common.{◌≡◌, ℕ, zero, suc, ◌+◌, ◌-◌, ◌^◌, ◌<◌, ◌≤◌, true, false, List, [], ◌∷◌, ◌++◌, length, take, drop, get_or, refl, sym, ap, ◌∙◌, arith, inl, inr, eq-eqb, ltb, eqb, ◌*◌, ◌%◌}
use Rattle.std.proofs.lemmas.Bool.{cond-true, cond-false, false_from_ne_true, eqb-true, cases_order, ltb-true, ltb-false}
use Rattle.std.proofs.lemmas.List.{get_or-take, get_or-drop, length-take, length-drop, take-append-drop}
use Rattle.std.proofs.lemmas.Nat.{one_shl}
use Rattle.std.proofs.Math.Nat.{pow-suc}
use Rattle.std.specs.List.{All}
use Rattle.std.specs.List.Sorted.{IsNonDecreasingBy, IsPartitionPoint}
use Rattle.warg_crypto.specs.EmptyTrees.{empty_root}
use Rattle.warg_crypto.specs.Tree.{branch}
use Rattle.warg_pages.specs.Slots.{SlotAt, Ascends}
use Rattle.warg_pages.specs.Pages.{digest_at, root_over}

-- ascending slots
pub ascends_rise : (xs : List SlotAt) → Ascends xs → IsNonDecreasingBy (λ x. x.byte) xs
ascends_rise xs h = λ i j d le lt. elim (cases_order i j) [
  | inl e ↦ (let same : (get_or xs i d).byte ≡ (get_or xs j d).byte = ap (λ k. (get_or xs k d).byte) e in omega arith)
  | inr o ↦ elim o [ inl below ↦ (let k = h i j d below lt in omega arith) | inr above ↦ absurd (omega arith) ]
]

pub Ascends-take : (n : ℕ) (xs : List SlotAt) → Ascends xs → Ascends (take n xs)
Ascends-take n xs h = λ i j d lt within.
    let all = length-take n xs in
    let low : j < n = omega arith in
    let there : j < length xs = omega arith in
    let before : i < n = omega arith in
    rw (get_or-take n xs i d before, get_or-take n xs j d low) (h i j d lt there)

pub Ascends-drop : (n : ℕ) (xs : List SlotAt) → Ascends xs → Ascends (drop n xs)
Ascends-drop n xs h = λ i j d lt within.
    let all = length-drop n xs in
    rw (get_or-drop n xs i d, get_or-drop n xs j d) (h (n + i) (n + j) d (omega arith) (omega arith))

-- the digest at a number to one side of some slots
pub digest_other : (H : List ℕ → List ℕ) (height : ℕ) (x : SlotAt) (xs : List SlotAt) (s : ℕ) → ¬ (x.byte ≡ s)
    → digest_at H height (x ∷ xs) s ≡ digest_at H height xs s
unfolding digest_at
digest_other H height x xs s n = cond-false _ _ _ (false_from_ne_true _ (λ e. n (eqb-true x.byte s e)))

module _ (H : List ℕ → List ℕ) (height middle : ℕ) where
  pub at_right : (l r : List SlotAt) (s : ℕ) → All (λ x. x.byte < middle) l → middle ≤ s
      → digest_at H height (l ++ r) s ≡ digest_at H height r s
  at_right [] r s h le = refl
  at_right (x ∷ l) r s h le =
      let head : x.byte < middle = h 0 x (omega arith) in
      digest_other H height x _ s (λ e. omega arith) ∙ at_right l r s
      (λ i d lt. h (suc i) d (omega arith)) le

  pub at_none : (r : List SlotAt) (s : ℕ) → All (λ x. middle ≤ x.byte) r → s < middle
      → digest_at H height r s ≡ empty_root H height
  unfolding digest_at
  at_none [] s h lt = refl
  at_none (x ∷ r) s h lt =
      let head : middle ≤ x.byte = h 0 x (omega arith) in
      digest_other H height x r s (λ e. omega arith)
      ∙ at_none r s (λ i d lt. h (suc i) d (omega arith)) lt

  pub at_left : (l r : List SlotAt) (s : ℕ) → All (λ x. middle ≤ x.byte) r → s < middle
      → digest_at H height (l ++ r) s ≡ digest_at H height l s
  unfolding digest_at
  at_left [] r s h lt = at_none r s h lt
  at_left (x ∷ l) r s h lt = rw (at_left l r s h lt) refl

-- trees over the same digests, and over none
pub root_over-same : (H : List ℕ → List ℕ) (f g : ℕ → List ℕ) (first k : ℕ)
    → ((s : ℕ) → first ≤ s → s < first + 2 ^ k → f s ≡ g s) → root_over H f first k ≡ root_over H g first k
unfolding root_over
root_over-same H f g first zero h = h first (omega arith) (omega arith)
root_over-same H f g first (suc k) h =
    rw (
      root_over-same H f g first k (λ s le lt. h s le (rw (pow-suc 2 k) (omega arith))),
      root_over-same H f g (first + 2 ^ k) k (λ s le lt. h s (omega arith) (rw (pow-suc 2 k) (omega arith))),
    ) refl

root_over-none : (H : List ℕ → List ℕ) (height first k : ℕ) → root_over H (λ s. empty_root H height) first k
    ≡ empty_root H (k + height)
unfolding root_over empty_root
root_over-none H height first zero = let at : zero + height ≡ height = omega arith in rw at refl
root_over-none H height first (suc k) =
    let at : suc k + height ≡ suc (k + height) = omega arith in
    rw (at, root_over-none H height first k, root_over-none H height (first + 2 ^ k) k) refl

module _ (H : List ℕ → List ℕ) (height first k : ℕ) where
  pub root_over-nil : root_over H (digest_at H height []) first k ≡ empty_root H (height + k)
  unfolding digest_at
  root_over-nil = root_over-none H height first k ∙ ap (empty_root H) (omega arith)

  -- a tree over the slots on both sides of its middle
  pub root_over-split : (n : ℕ) (xs : List SlotAt) → All (λ x. x.byte < first + 2 ^ k) (take n xs)
      → All (λ x. first + 2 ^ k ≤ x.byte) (drop n xs) → root_over H (digest_at H height xs) first (suc k)
      ≡ branch H (root_over H (digest_at H height (take n xs)) first k)
      (root_over H (digest_at H height (drop n xs)) (first + 2 ^ k) k)
  unfolding root_over
  root_over-split n xs l r =
      let whole : xs ≡ take n xs ++ drop n xs = sym (take-append-drop n xs) in
      rw (
        root_over-same H _ _ first k
            (λ s le lt. ap (λ ys. digest_at H height ys s) whole ∙ at_left H height _ _ _ s r lt),
        root_over-same H _ _ (first + 2 ^ k) k
            (λ s le lt. ap (λ ys. digest_at H height ys s) whole ∙ at_right H height (first + 2 ^ k) _ _ s l le),
      ) refl

  -- a tree over no slots, and over one
  pub root_over-empty : (xs : List SlotAt) → length xs ≡ 0
      → root_over H (digest_at H height xs) first k ≡ empty_root H (height + k)
  root_over-empty [] n = root_over-nil
  root_over-empty _ n = absurd (omega arith)

  pub root_over-one : (xs : List SlotAt) (d : SlotAt) → 0 < length xs → k ≡ 0 → All (λ x. first ≤ x.byte) xs
      → All (λ x. x.byte < first + 2 ^ k) xs → root_over H (digest_at H height xs) first k ≡ (get_or xs 0 d).digest
  unfolding root_over digest_at
  root_over-one [] d n z l r = absurd (omega arith)
  root_over-one (x ∷ xs) d n z l r =
      let low : first ≤ x.byte = l 0 d n in
      let high : x.byte < first + 1 = rw z at (r 0 d n) in
      let at : x.byte ≡ first = omega arith in
      rw z (cond-true _ _ _ (eq-eqb x.byte first at))

-- what a partition point at a number says of both parts
module _ (xs : List SlotAt) (n middle : ℕ)
    (at : IsPartitionPoint (λ y. ltb y.byte middle ≡ true) (λ y. ltb y.byte middle ≡ false) xs n) where
  pub below_point : All (λ x. x.byte < middle) (take n xs)
  below_point = λ k d lt.
      let all = length-take n xs in
      let low : k < n = omega arith in
      rw (get_or-take n xs k d low) (ltb-true _ middle (at.0 k d (omega arith) low))

  pub above_point : All (λ x. middle ≤ x.byte) (drop n xs)
  above_point = λ k d lt.
      let all = length-drop n xs in
      rw (get_or-drop n xs k d) (ltb-false _ middle (at.1 (n + k) d (omega arith) (omega arith)))

-- levels that are not 0
pub halved : (k : ℕ) → ¬ (k ≡ 0) → 2 ^ k ≡ 2 ^ (k - 1) + 2 ^ (k - 1)
halved zero n = absurd (n refl)
halved (suc k) n = let at : suc k - 1 ≡ k = omega arith in rw (at, pow-suc 2 k) (omega arith)

pub some_slots : (xs : List SlotAt) → eqb (length xs) 0 ≡ false → 0 < length xs
some_slots [] e = absurd cc
some_slots _ e = omega arith

pub shifted : (k : ℕ) → k < 8 → 1 * 2 ^ k % 2 ^ 64 ≡ 2 ^ k
shifted k lt = one_shl k 64 (omega arith)

-- a tree of some levels, by both halves
pub root_over-halves : (H : List ℕ → List ℕ) (height first k n middle : ℕ) (xs l r : List SlotAt) → ¬ (k ≡ 0)
    → middle ≡ first + 2 ^ (k - 1) → l ≡ take n xs → r ≡ drop n xs
    → All (λ x. x.byte < middle) (take n xs) → All (λ x. middle ≤ x.byte) (drop n xs)
    → branch H (root_over H (digest_at H height l) first (k - 1)) (root_over H (digest_at H height r) middle (k - 1))
    ≡ root_over H (digest_at H height xs) first k
root_over-halves H height first k n middle xs l r some m le re low high =
    let at : k ≡ suc (k - 1) = omega arith in
    rw (le, re, m) (sym (root_over-split H height first _ n xs (rw m at low) (rw m at high)))
    ∙ ap (root_over H (digest_at H height xs) first) (sym at)

-- a tree over a part of the slots, and over all
pub root_over-part : (H : List ℕ → List ℕ) (height first k m n : ℕ) (xs : List SlotAt)
    → All (λ x. x.byte < first) (take m xs) → All (λ x. first + 2 ^ k ≤ x.byte) (drop n (drop m xs))
    → root_over H (digest_at H height (take n (drop m xs))) first k ≡ root_over H (digest_at H height xs) first k
root_over-part H height first k m n xs l r =
    sym (root_over-same H _ _ first k same)
  where
    same : (s : ℕ) → first ≤ s → s < first + 2 ^ k → digest_at H height xs s ≡ digest_at H height (take n (drop m xs)) s
    same s le lt =
        ap (λ ys. digest_at H height ys s) (sym (take-append-drop m xs)) ∙ at_right H height first _ _ s l le
        ∙ ap (λ ys. digest_at H height ys s) (sym (take-append-drop n _)) ∙ at_left H height (first + 2 ^ k) _ _ s r lt
