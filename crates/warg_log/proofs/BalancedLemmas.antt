-- Balanced roots.
use Rattle.std.proofs.Common.{◌≡◌, ℕ, zero, suc, ◌+◌, ◌-◌, ◌*◌, ◌^◌, ◌<◌, ◌≤◌, List, [], ◌∷◌, map, refl, arith, ⊎_elim}
use Rattle.std.proofs.Math.Nat.{pow-suc}
use Rattle.std.proofs.lemmas.Bool.{le-leb, lt-leb, cases_lt}
use Rattle.std.proofs.lemmas.Nat.{pow_pos}
use Rattle.std.specs.List.{AllByRecursion}
use Rattle.warg_log.specs.Nodes.{node_over, balanced_within, balanced_over, balanced_roots, Follow, Fall}
use Rattle.warg_log.proofs.NodeLemmas.{over_at, pow_below_pow}
use Rattle.warg_log.proofs.RootLemmas.{below_pow, settled_at, exponent_below}

-- functions that agree on each element
pub map_same : {X Y : Type 0} (f g : X → Y) (xs : List X) → AllByRecursion (λ x. f x ≡ g x) xs → map f xs ≡ map g xs
map_same f g [] all = refl
map_same f g (x ∷ xs) all = rw (all.0, map_same f g xs all.1) refl

-- no leaves have no balanced root
pub balanced_none : (a : ℕ) → balanced_over a 0 ≡ []
unfolding balanced_within
balanced_none a = refl

pub none_left : (a e : ℕ) → e ≤ a → balanced_over a (e - a) ≡ []
none_left a e le = grind (arith, balanced_none a)

-- any number of digits that is enough
pub balanced_at : (h k a n : ℕ) → n < 2 ^ h → n < 2 ^ k → balanced_within h a n ≡ balanced_within k a n
unfolding balanced_within
balanced_at h k a n lh lk = settled_at (λ m. balanced_within m a n) (suc n) h k (λ m lt. rw (lt-leb (2 ^ m) n lt) refl)
    lh lk

-- the greatest comes first
pub balanced_first : (h a n : ℕ) → 2 ^ h ≤ n → n < 2 ^ suc h
    → balanced_within n a n ≡ node_over a (2 ^ h) ∷ balanced_within (n - 2 ^ h) (a + 2 ^ h) (n - 2 ^ h)
unfolding balanced_within
balanced_first h a n low high = grind (
  arith,
  balanced_at n (suc h) a n (below_pow n) high,
  below_pow n,
  balanced_at,
  pow-suc,
  below_pow (n - 2 ^ h),
)

pub balanced_more : (h a m : ℕ) → m < 2 ^ h → balanced_over a (2 ^ h + m) ≡ node_over a (2 ^ h) ∷ balanced_over
    (a + 2 ^ h) m
balanced_more h a m lt = grind (arith, balanced_first h a (2 ^ h + m))

pub balanced_full : (h a : ℕ) → balanced_over a (2 ^ h) ≡ node_over a (2 ^ h) ∷ []
balanced_full h a = grind (arith, balanced_more h a 0 (pow_pos h), balanced_none)

-- leaves above none have one
pub has_first_over : (a n : ℕ) → 0 < n → (h : ℕ) × (2 ^ h ≤ n)
    × (balanced_over a n ≡ node_over a (2 ^ h) ∷ balanced_over (a + 2 ^ h) (n - 2 ^ h))
has_first_over a n some = grind (arith, exponent_below n (suc n), below_pow n, balanced_first)

-- as a program cuts it off
pub first_cut : (a e n : ℕ) → (h : ℕ) × (n ≡ 2 ^ h) × (2 ^ h ≤ e - a) × (e - a < 2 ^ (h + 1)) → balanced_over a (e - a)
    ≡ node_over a n ∷ balanced_over (a + n) (e - (a + n))
first_cut a e n first = grind (arith, first, balanced_first first.0 a (e - a))

-- P holds of each range and its balanced roots where it holds of no leaves and, if it does of fewer than 2 ^ h leaves,
-- of 2 ^ h more in front of them
pub record Rule (P : ℕ → ℕ → List ℕ → Type 0) : Type 0 where
  pub none : (a : ℕ) → P a 0 []
  pub first : (h c m : ℕ) (ts : List ℕ) → m < 2 ^ h → P (c * 2 ^ h + 2 ^ h) m ts
      → P (c * 2 ^ h) (2 ^ h + m) (node_over (c * 2 ^ h) (2 ^ h) ∷ ts)

roots_within : (P : ℕ → ℕ → List ℕ → Type 0) → Rule P → (h c n : ℕ) → n < 2 ^ h
    → P (c * 2 ^ h) n (balanced_within h (c * 2 ^ h) n)
unfolding balanced_within
roots_within P R zero c n lt = let none : n ≡ 0 = omega arith in rw none (R.none (c * 2 ^ 0))
roots_within P R (suc h) c n lt =
    let start : c * 2 ^ suc h ≡ 2 * c * 2 ^ h = rw pow-suc (omega arith) in
    rw start (⊎_elim (λ (low : n < 2 ^ h). search (lt-leb, roots_within P R h (2 * c) n low))
    (λ (high : 2 ^ h ≤ n). grind (arith, le-leb, roots_within P R h (2 * c + 1) (n - 2 ^ h))) (cases_lt n (2 ^ h)))

pub roots : (P : ℕ → ℕ → List ℕ → Type 0) → Rule P → (n : ℕ) → P 0 n (balanced_roots n)
roots P R n = grind (arith, roots_within P R n 0 n (below_pow n))

-- the balanced roots follow one another, and their heights fall
follow_rule : Rule (λ a n ts. Follow a (a + n) ts)
follow_rule = grind (arith, over_at)

pub roots_follow : (n : ℕ) → Follow 0 n (balanced_roots n)
roots_follow n = grind (arith, roots, follow_rule)

-- so do those of up to 2 ^ h leaves from a multiple of 2 ^ h on
pub over_follow : (h c n : ℕ) → n ≤ 2 ^ h → Follow (c * 2 ^ h) (c * 2 ^ h + n) (balanced_over (c * 2 ^ h) n)
over_follow h c n most = ⊎_elim (λ (less : n < 2 ^ h). rw (balanced_at n h (c * 2 ^ h) n (below_pow n) less)
    (grind (arith, roots_within, follow_rule))) (λ (whole : 2 ^ h ≤ n). grind
    (arith, balanced_full h (c * 2 ^ h), over_at h c)) (cases_lt n (2 ^ h))

pub roots_fall : (n : ℕ) → Fall n (balanced_roots n)
roots_fall n = roots (λ _ n ts. (k : ℕ) → n < 2 ^ k → Fall k ts) (grind (arith, over_at, pow_below_pow)) n n
    (below_pow n)
