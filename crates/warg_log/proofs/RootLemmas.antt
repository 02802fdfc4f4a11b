-- Roots of lists of leaf digests.
use Rattle.std.proofs.Common.{◌≡◌, ℕ, zero, suc, ◌+◌, ◌-◌, ◌*◌, ◌/◌, ◌^◌, ◌<◌, ◌≤◌, max, ⊎_elim, List, [], ◌∷◌, length, take, drop, refl, sym, ap, ◌∙◌, arith, lit<, add-zero, length-drop, length-take-le, slice_index_or}
use Rattle.std.proofs.Math.Nat.{add_comm, pow-suc, pow-le-pow_right}
use Rattle.std.specs.Int.{is_power_of_two}
use Rattle.std.specs.Int.RustNames.{count_ones}
use Rattle.std.specs.Bool.{Decides}
use Rattle.std.proofs.lemmas.Bool.{le-leb, lt-leb, cases_lt, eq-eqb, eqb-true}
use Rattle.std.proofs.lemmas.Nat.{pow_pos, ones_cat, ones_le_self, zero_from_ones}
use Rattle.warg_crypto.specs.Tree.{branch}
use Rattle.warg_log.specs.Tree.{front_within, front_of, root_within, root_of, root_over}
use Rattle.warg_log.specs.Cut.{IsFull}

pub below_pow : (n : ℕ) → n < 2 ^ n
below_pow zero = lit< tt
below_pow (suc n) = omega (arith, below_pow n)

-- a recursion on a height is the same at each height that is enough
settled : {X : Type 0} (f : ℕ → X) (n h d : ℕ) → ((k : ℕ) → n ≤ 2 ^ k → f (suc k) ≡ f k) → n ≤ 2 ^ h → f (h + d) ≡ f h
settled f n h zero next le = rw add-zero refl
settled f n h (suc d) next le = grind (arith, pow-le-pow_right, settled f n h d next le)

pub settled_at : {X : Type 0} (f : ℕ → X) (n h k : ℕ) → ((k : ℕ) → n ≤ 2 ^ k → f (suc k) ≡ f k) → n ≤ 2 ^ h → n ≤ 2 ^ k
    → f h ≡ f k
settled_at f n h k next at_h at_k = sym (settled f n h k next at_h) ∙ ap f (add_comm h k) ∙ settled f n k h next at_k

-- the root at any height that is enough
root_of_within : (H : List ℕ → List ℕ) (h : ℕ) (ds : List (List ℕ)) → 0 < length ds → length ds ≤ 2 ^ h
    → root_of H ds ≡ root_within H h ds
unfolding root_within
root_of_within H h [] pos le = absurd (omega arith)
root_of_within H h (d ∷ ds) pos le =
    let n = length (d ∷ ds) in
    settled_at (λ m. root_within H m (d ∷ ds)) n n h (λ k low. rw (le-leb n (2 ^ k) low) refl)
    (omega (arith, below_pow n)) le

-- the root of more digests than 2 ^ h, and at most twice as many
pub root_of_split : (H : List ℕ → List ℕ) (h : ℕ) (ds : List (List ℕ)) → 2 ^ h < length ds → length ds ≤ 2 ^ suc h
    → root_of H ds ≡ branch H (root_of H (take (2 ^ h) ds)) (root_of H (drop (2 ^ h) ds))
unfolding root_within
root_of_split H h ds more most = grind (
  arith,
  length-take-le (2 ^ h) ds,
  length-drop (2 ^ h) ds,
  root_of_within,
  pow_pos,
  root_of_within H h (drop (2 ^ h) ds),
  pow-suc,
  root_of_within H (suc h) ds,
)

-- the root of one digest
pub root_of_one : (H : List ℕ → List ℕ) (d : List ℕ) → root_of H (d ∷ []) ≡ d
unfolding root_within
root_of_one H d = cc

-- the root over one leaf
pub root_over_one : (H : List ℕ → List ℕ) (ds : List (List ℕ)) (a : ℕ) → a < length ds → root_over H ds a 1
    ≡ slice_index_or ds a []
root_over_one H [] a lt = absurd (omega arith)
root_over_one H (d ∷ ds) zero lt = root_of_one H d
root_over_one H (d ∷ ds) (suc a) lt = root_over_one H ds a (omega arith)

-- the greatest power of two below a number
front_above : (h n : ℕ) → 2 ^ h < n → front_within h n ≡ 2 ^ h
unfolding front_within
front_above zero n more = refl
front_above (suc h) n more = rw (lt-leb n (2 ^ suc h) more) refl

pub front_of_is : (h n : ℕ) → 2 ^ h < n → n ≤ 2 ^ suc h → front_of n ≡ 2 ^ h
unfolding front_of front_within
front_of_is h n more most = settled_at (λ k. front_within k n) n n (suc h) (grind arith) (omega (arith, below_pow))
    most ∙ rw (le-leb n (2 ^ suc h) most) (front_above h n more)

-- a number above 1 lies above a power of two, and at most at its double
pub exponent_below : (f n : ℕ) → 1 < n → n ≤ 2 ^ f → (h : ℕ) × (2 ^ h < n) × (n ≤ 2 ^ suc h)
exponent_below zero n more most = absurd (omega arith)
exponent_below (suc f) n more most = ⊎_elim (λ above. (f, above, most)) (λ low. exponent_below f n more low)
    (cases_lt (2 ^ f) n)

-- the front of a range of more than one leaf
pub front_is : (n : ℕ) → 1 < n → (h : ℕ) × (front_of n ≡ 2 ^ h) × (2 ^ h < n) × (n ≤ 2 ^ suc h)
front_is n more = grind (arith, exponent_below n n more, below_pow, front_of_is)

-- half of the least power of two that isn't below a number, as a program finds it
pub front_of_half : (n r : ℕ) → 1 < n → IsFull r → n ≤ r → r / 2 < max 1 n → front_of n ≡ r / 2
front_of_half n r more (zero, is) low high = absurd (omega arith)
front_of_half n r more (suc h, is) low high = grind (arith, front_of_is)

-- a power of two has one binary digit that is set, and no other number does
one_digit : count_ones 1 ≡ 1
one_digit = grind (arith, ones_le_self, zero_from_ones)

pub power_decides : (n : ℕ) → Decides (is_power_of_two n) (IsFull n)
power_decides zero = grind (arith, ones_le_self, pow_pos)
power_decides (suc m) =
    let e = exponent_below (suc m) (suc (suc m)) (omega arith) (below_pow (suc m)) in
    let whole : 1 * 2 ^ e.0 + (suc m - 2 ^ e.0) ≡ suc m = omega arith in
    let digits = rw whole at (ones_cat e.0 1 (suc m - 2 ^ e.0) (omega arith)) in (
      grind (arith, zero_from_ones, eqb-true),
      λ full. grind
          (arith, eq-eqb, ones_cat full.0 1 0 (pow_pos full.0), one_digit, ones_le_self 0),
    )
