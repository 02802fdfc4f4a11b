-- How paths are made, part by part.
use Rattle.std.proofs.Common.{◌≡◌, inl, inr, ℕ, zero, suc, ◌-◌, ◌<◌, ◌≤◌, ◌==◌, nat_le, nat_lt, if◌then◌else◌, Bool, true, false, List, [], Option, Some, None, refl, arith}
use Rattle.std.proofs.lemmas.Bool.{le-leb, lt-leb, lt-ltb, le-ltb, eq-eqb, ne_eqb, cases_lt}
use Rattle.warg_log.specs.Ranges.{Range, leaves_from, front_part, rest_part}
use Rattle.warg_log.specs.Tree.{front_of}
use Rattle.warg_log.proofs.ForCallers.{front_is_greatest}
use Rattle.warg_paths.specs.Paths.{beside, path_within, inclusion_over, inclusion_of, path_at_end, growth_within, consistency_over, consistency_of}

-- the parts of more than one leaf have some, and fewer than all
pub parts_fewer : (n : ℕ) → 1 < n → (0 < front_of n) × (front_of n < n) × (n - front_of n < n)
parts_fewer n more = let f = front_is_greatest n more in (omega (arith, f.2), f.1, omega (arith, f.2, f.1))

-- a step more than there are leaves changes nothing
path_enough : (R : Range → Option (List ℕ)) (s t m : ℕ) (r : Range) → r.count ≤ s → r.count ≤ t → path_within R s m r
    ≡ path_within R t m r
unfolding path_within
path_enough R zero zero m r low high = refl
path_enough R zero (suc t) m r low high = rw (le-leb r.count 1 (omega arith)) refl
path_enough R (suc s) zero m r low high = rw (le-leb r.count 1 (omega arith)) refl
path_enough R (suc s) (suc t) m r low high = grind (
  arith,
  cases_lt,
  parts_fewer,
  lt-leb,
  path_enough R s t m
      (front_part r),
  path_enough R s t (m - front_of r.count) (rest_part r),
  le-leb,
)

-- the path of a leaf in the first part
pub inclusion_front : (R : Range → Option (List ℕ)) (m : ℕ) (r : Range) → 1 < r.count → m < front_of r.count
    → inclusion_over R m r ≡ beside (inclusion_over R m (front_part r)) (R (rest_part r))
unfolding path_within
inclusion_front R m r more front = grind (arith, parts_fewer, path_enough, lt-leb, lt-ltb)

-- the path of a leaf in the rest
pub inclusion_rest : (R : Range → Option (List ℕ)) (m : ℕ) (r : Range) → 1 < r.count → front_of r.count ≤ m
    → inclusion_over R m r ≡ beside (inclusion_over R (m - front_of r.count) (rest_part r)) (R (front_part r))
unfolding path_within
inclusion_rest R m r more rest = grind (arith, parts_fewer, path_enough, lt-leb, le-ltb)

growth_enough : (R : Range → Option (List ℕ)) (s t : ℕ) (whole : Bool) (m : ℕ) (r : Range) → 0 < m → m ≤ r.count
    → r.count ≤ s → r.count ≤ t
    → growth_within R s whole m r ≡ growth_within R t whole m r
unfolding growth_within
growth_enough R zero t whole m r some order low high = absurd (omega arith)
growth_enough R (suc s) zero whole m r some order low high = absurd (omega arith)
growth_enough R (suc s) (suc t) whole m r some order low high = elim (cases_lt m r.count) [
  | inl less ↦
      let few = parts_fewer r.count (omega arith) in
      rw (ne_eqb m r.count (λ e. omega arith)) (elim (cases_lt (front_of r.count) m) [
        | inl rest ↦ rw (
          lt-leb m (front_of r.count) rest,
          growth_enough R s t false (m - front_of r.count)
              (rest_part r) (omega arith) (omega arith) (omega arith) (omega arith),
        ) refl
        | inr front ↦ rw (
          le-leb m (front_of r.count) front,
          growth_enough R s t whole m (front_part r) some front
              (omega arith) (omega arith),
        ) refl
      ])
  | inr whole ↦ rw (eq-eqb m r.count (omega arith)) refl
]

-- at the end of the old leaves nothing is left, or the digest over them
pub consistency_end : (R : Range → Option (List ℕ)) (whole : Bool) (m : ℕ) (r : Range) → 0 < m → m ≡ r.count
    → consistency_over R whole m r ≡ path_at_end R whole r
unfolding growth_within
consistency_end R whole m r some all = grind (arith, growth_enough, eq-eqb)

-- the path where the old leaves end in the first part
pub consistency_front : (R : Range → Option (List ℕ)) (whole : Bool) (m : ℕ) (r : Range) → 0 < m → m < r.count
    → m ≤ front_of r.count
    → consistency_over R whole m r ≡ beside (consistency_over R whole m (front_part r)) (R (rest_part r))
unfolding growth_within
consistency_front R whole m r some less front = grind (arith, parts_fewer, growth_enough, ne_eqb, le-leb)

-- the path where the old leaves end in the rest
pub consistency_rest : (R : Range → Option (List ℕ)) (whole : Bool) (m : ℕ) (r : Range) → m < r.count
    → front_of r.count < m
    → consistency_over R whole m r ≡ beside (consistency_over R false (m - front_of r.count) (rest_part r))
    (R (front_part r))
unfolding growth_within
consistency_rest R whole m r less rest = grind (arith, parts_fewer, growth_enough, ne_eqb, lt-leb)

-- the path of one leaf is empty
pub inclusion_one : (R : Range → Option (List ℕ)) (m : ℕ) (r : Range) → r.count ≡ 1 → inclusion_over R m r ≡ Some []
unfolding path_within
inclusion_one R m r one = cc

-- what holds of both cases of a test holds of the test
either : {T : Type 0} (b : Bool) {p q s t : T} {path : T} → (p ≡ path → s ≡ path) → (q ≡ path → t ≡ path)
    → (if b then p else q) ≡ path → (if b then s else t) ≡ path
either true then_case else_case is = then_case is
either false then_case else_case is = else_case is

-- Roots of more ranges make the same path.
beside_more : (p q : Option (List (List ℕ))) (s t : Option (List ℕ))
    → ((path : List (List ℕ)) → p ≡ Some path → q ≡ Some path) → ((d : List ℕ) → s ≡ Some d → t ≡ Some d)
    → (path : List (List ℕ)) → beside p s ≡ Some path → beside q t ≡ Some path
beside_more (Some p) q (Some s) t below top path is = rw (below p refl, top s refl) is
beside_more (Some p) q None t below top path is = absurd (cc)
beside_more None q s t below top path is = absurd (cc)

module _ (R S : Range → Option (List ℕ)) (more : (r : Range) (d : List ℕ) → R r ≡ Some d → S r ≡ Some d) where
  path_more : (steps m : ℕ) (r : Range) (path : List (List ℕ)) → path_within R steps m r ≡ Some path
      → path_within S steps m r ≡ Some path
  unfolding path_within
  path_more zero m r path is = is
  path_more (suc steps) m r path is =
      let front = beside_more (path_within R steps m (front_part r)) (path_within S steps m (front_part r))
      (R (rest_part r)) (S (rest_part r)) (path_more steps m (front_part r)) (more (rest_part r)) path in
      let k : ℕ = m - front_of r.count in
      let rest = beside_more (path_within R steps k (rest_part r)) (path_within S steps k (rest_part r))
      (R (front_part r)) (S (front_part r)) (path_more steps k (rest_part r)) (more (front_part r)) path in
      either (nat_le r.count 1) (λ e. e) (either (nat_lt m (front_of r.count)) front rest) is

  pub inclusion_more : (m n : ℕ) (path : List (List ℕ)) → inclusion_of R m n ≡ Some path → inclusion_of S m n
      ≡ Some path
  inclusion_more m n = path_more n m (leaves_from 0 n)

  end_more : (whole : Bool) (r : Range) (path : List (List ℕ)) → path_at_end R whole r ≡ Some path
      → path_at_end S whole r ≡ Some path
  end_more true r path is = is
  end_more false r path is = beside_more (Some []) (Some []) (R r) (S r) (λ q e. e) (more r) path is

  growth_more : (steps : ℕ) (whole : Bool) (m : ℕ) (r : Range) (path : List (List ℕ)) → growth_within R steps whole m r
      ≡ Some path → growth_within S steps whole m r ≡ Some path
  unfolding growth_within
  growth_more zero whole m r path is = is
  growth_more (suc steps) whole m r path is =
      let front = beside_more (growth_within R steps whole m (front_part r))
      (growth_within S steps whole m (front_part r)) (R (rest_part r)) (S (rest_part r))
      (growth_more steps whole m (front_part r)) (more (rest_part r)) path in
      let k : ℕ = m - front_of r.count in
      let rest = beside_more (growth_within R steps false k (rest_part r)) (growth_within S steps false k (rest_part r))
      (R (front_part r)) (S (front_part r)) (growth_more steps false k (rest_part r)) (more (front_part r)) path in
      either (m == r.count) (end_more whole r path) (either (nat_le m (front_of r.count)) front rest) is

  pub consistency_more : (m n : ℕ) (path : List (List ℕ)) → consistency_of R m n ≡ Some path → consistency_of S m n
      ≡ Some path
  consistency_more m n = growth_more n true m (leaves_from 0 n)
