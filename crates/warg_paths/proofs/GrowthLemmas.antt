-- Where a log's own consistency paths lead.
use Rattle.std.proofs.Common.{◌≡◌, inl, inr, ℕ, zero, suc, ◌+◌, ◌-◌, ◌*◌, ◌^◌, ◌<◌, ◌≤◌, Bool, true, false, List, [], ◌∷◌, length, reverse, take, Option, Some, None, refl, ◌∙◌, arith}
use Rattle.std.proofs.lemmas.Bool.{lt-ltb, le-leb, cases_lt}
use Rattle.std.proofs.Math.Nat.{pow-suc}
use Rattle.std.proofs.lemmas.Nat.{pow_pos}
use Rattle.warg_crypto.specs.Tree.{branch}
use Rattle.warg_log.specs.Ranges.{Range, leaves_from}
use Rattle.warg_log.specs.Tree.{front_of, root_of, root_over, own_digest}
use Rattle.warg_log.specs.Cut.{old_over}
use Rattle.warg_log.proofs.ForCallers.{below_pow, front_of_is, root_over_parts, old_own_range}
use Rattle.warg_paths.specs.Paths.{beside, path_at_end, consistency_over, consistency_of, roots_down, grown, both_over, led_to_both}
use Rattle.warg_paths.proofs.PathLemmas.{both_one, both_front, both_rest}
use Rattle.warg_paths.proofs.MakeLemmas.{consistency_end, consistency_front, consistency_rest}

-- the roots to which a path leads, of lengths in order
abbrev led : (List ℕ → List ℕ) → Option (List ℕ) → ℕ → ℕ → Option (List (List ℕ)) → Option (List ℕ × List ℕ)
led H old m n None = None
led H old m n (Some path) = roots_down H old m n (reverse path)

-- the root of the old log is known, and that of a part of it isn't
abbrev pub known : Bool → List ℕ → Option (List ℕ)
known true root = Some root
known false root = None

led_front : (H : List ℕ → List ℕ) (old : Option (List ℕ)) (m n : ℕ) (path : Option (List (List ℕ))) (top : List ℕ)
    → m < n → m ≤ front_of n
    → led H old m n (beside path (Some top)) ≡ grown H (led H old m (front_of n) path) top
led_front H old m n None top less front = refl
led_front H old m n (Some path) top less front = both_front H old m n top path less front

led_rest : (H : List ℕ → List ℕ) (old : Option (List ℕ)) (m n : ℕ) (path : Option (List (List ℕ))) (top : List ℕ)
    → m < n → front_of n < m
    → led H old m n (beside path (Some top)) ≡ both_over H top (led H None (m - front_of n) (n - front_of n) path)
led_rest H old m n None top less rest = refl
led_rest H old m n (Some path) top less rest = both_rest H old m n top path less rest

led_end : (H : List ℕ → List ℕ) (whole : Bool) (R : Range → Option (List ℕ)) (r : Range) (root : List ℕ)
    → R r ≡ Some root
    → led H (known whole root) r.count r.count (path_at_end R whole r) ≡ Some (root, root)
led_end H true R r root is = both_one H (Some root) r.count []
led_end H false R r root is = rw is (both_one H None r.count (root ∷ []))

-- the parts of a range that begins at a multiple begin at multiples of half as much
front_at : (a c h : ℕ) → a ≡ c * 2 ^ suc h → a ≡ (2 * c) * 2 ^ h
front_at a c h at = at ∙ rw (pow-suc 2 h) (omega arith)

rest_at : (a c h : ℕ) → a ≡ c * 2 ^ suc h → a + 2 ^ h ≡ (2 * c + 1) * 2 ^ h
rest_at a c h at = omega (arith, front_at a c h at)

-- over a log's own digests a range's stored root is the root over it
stored : (H : List ℕ → List ℕ) (ds : List (List ℕ)) (h a c n : ℕ) → a ≡ c * 2 ^ h → 0 < n → n ≤ 2 ^ h
    → a + n ≤ length ds
    → old_over H (own_digest H ds) (leaves_from a n) ≡ Some (root_over H ds a n)
stored H ds h a c n at some most = old_own_range H ds (leaves_from a n) some
    (record { height = h; place = c; start = at; most = most })

-- the path over all leaves of a range
all : (H : List ℕ → List ℕ) (ds : List (List ℕ)) (h a c : ℕ) (whole : Bool) (m n : ℕ) → a ≡ c * 2 ^ h → m ≡ n → 0 < n
    → n ≤ 2 ^ h → a + n ≤ length ds
    → led H (known whole (root_over H ds a m)) m n
    (consistency_over (old_over H (own_digest H ds)) whole m (leaves_from a n))
    ≡ Some (root_over H ds a m, root_over H ds a n)
all H ds h a c whole m n at same some most fits =
    rw (same, consistency_end (old_over H (own_digest H ds)) whole n (leaves_from a n) some refl)
    (led_end H whole (old_over H (own_digest H ds)) (leaves_from a n) (root_over H ds a n)
    (stored H ds h a c n at some most fits))

-- over a log's own digests the path leads to the roots over both ranges
own_leads : (H : List ℕ → List ℕ) (ds : List (List ℕ)) (h a c : ℕ) (whole : Bool) (m n : ℕ) → a ≡ c * 2 ^ h → 0 < m
    → m ≤ n → n ≤ 2 ^ h → a + n ≤ length ds
    → led H (known whole (root_over H ds a m)) m n
    (consistency_over (old_over H (own_digest H ds)) whole m (leaves_from a n))
    ≡ Some (root_over H ds a m, root_over H ds a n)
own_leads H ds zero a c whole m n at some order most fits = all H ds zero a c whole m n at (omega arith)
    (omega arith) most fits
own_leads H ds (suc h) a c whole m n at some order most fits = elim (cases_lt (2 ^ h) n) [
  | inr low ↦ own_leads H ds h a (2 * c) whole m n (front_at a c h at) some order low fits
  | inl more ↦ elim (cases_lt m n) [
    | inr same ↦ all H ds (suc h) a c whole m n at (omega arith) (omega arith) most fits
    | inl less ↦ elim (cases_lt (2 ^ h) m) [
      | inr low ↦
          let rest = stored H ds h (a + 2 ^ h) (2 * c + 1) (n - 2 ^ h) (rest_at a c h at) (omega arith)
          (omega (arith, pow-suc 2 h)) (omega (arith, pow_pos h)) in
          rw (consistency_front R whole m (leaves_from a n) some less (rw (front more) low), front more, rest)
          (led_front H (known whole (root_over H ds a m)) m n (consistency_over R whole m (leaves_from a (2 ^ h)))
          (root_over H ds (a + 2 ^ h) (n - 2 ^ h)) less (rw (front more) low)
          ∙ rw (
            front more,
            own_leads H ds h a (2 * c) whole m (2 ^ h) (front_at a c h at) some low (omega arith)
                (omega arith),
            parts n more most fits,
          ) refl)
      | inl high ↦
          let first = stored H ds h a (2 * c) (2 ^ h) (front_at a c h at) (pow_pos h) (omega arith) (omega arith) in
          let path = consistency_over R false (m - 2 ^ h) (leaves_from (a + 2 ^ h) (n - 2 ^ h)) in
          rw (consistency_rest R whole m (leaves_from a n) less (rw (front more) high), front more, first)
          (led_rest H (known whole (root_over H ds a m)) m n path (root_over H ds a (2 ^ h)) less (rw (front more) high)
          ∙ rw (
            front more,
            own_leads H ds h (a + 2 ^ h) (2 * c + 1) false (m - 2 ^ h) (n - 2 ^ h) (rest_at a c h at)
                (omega arith) (omega arith) (omega (arith, pow-suc 2 h)) (omega arith),
            parts n more most fits,
            parts m high (omega arith) (omega arith),
          ) refl)
    ]
  ]
]
  where
    R : Range → Option (List ℕ)
    R = old_over H (own_digest H ds)

    front : 2 ^ h < n → front_of n ≡ 2 ^ h
    front more = front_of_is h n more most

    parts : (k : ℕ) → 2 ^ h < k → k ≤ 2 ^ suc h → a + k ≤ length ds → root_over H ds a k
        ≡ branch H (root_over H ds a (2 ^ h)) (root_over H ds (a + 2 ^ h) (k - 2 ^ h))
    parts k more most fits = root_over_parts H ds a k (omega (arith, pow_pos h)) fits
        ∙ rw (front_of_is h k more most) refl

-- a log's own path between two lengths leads to the roots that it had
pub own_roots : (H : List ℕ → List ℕ) (ds : List (List ℕ)) (m n : ℕ) → 0 < m → m ≤ n → n ≤ length ds
    → led_to_both H m n (root_of H (take m ds)) (consistency_of (old_over H (own_digest H ds)) m n)
    ≡ Some (root_of H (take m ds), root_of H (take n ds))
own_roots H ds m n some order fits =
    led_is H m n (root_of H (take m ds)) (consistency_of (old_over H (own_digest H ds)) m n) some order
    ∙ own_leads H ds n 0 0 true m n (omega arith) some order (omega (arith, below_pow n)) (omega arith)
  where
    led_is : (H : List ℕ → List ℕ) (m n : ℕ) (old : List ℕ) (path : Option (List (List ℕ))) → 0 < m → m ≤ n
        → led_to_both H m n old path ≡ led H (Some old) m n path
    led_is H m n old None some order = refl
    led_is H m n old (Some path) some order = rw (lt-ltb 0 m some, le-leb m n order) refl
