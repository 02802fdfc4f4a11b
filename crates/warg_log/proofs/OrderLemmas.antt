-- The order in which the needed nodes stand, and where they lie.
use Rattle.std.proofs.Common.{◌≡◌, ℕ, zero, suc, ◌+◌, ◌-◌, ◌*◌, ◌/◌, ◌%◌, ◌^◌, ◌<◌, ◌≤◌, ◌==◌, if◌then◌else◌, true, false, List, [], ◌∷◌, ◌++◌, length, refl, sym, ap, ◌∙◌, append_assoc, arith, lit≤, add-zero, zero-add, add-one, ⊎_elim, inl, inr}
use Rattle.std.specs.Prelude.{reverse, nat_eq}
use Rattle.std.specs.List.{AllByRecursion, IsDistinct}
use Rattle.std.proofs.lemmas.Grind.{reverse_onto}
use Rattle.std.proofs.Math.Nat.{pow-suc, mul-le-mul_right}
use Rattle.std.proofs.lemmas.List.{length-append, append-nil}
use Rattle.std.proofs.lemmas.Bool.{ne_eqb, cases_eq}
use Rattle.std.proofs.lemmas.Nat.{pow_pos, pow-add, shr-shr}
use Rattle.warg_log.specs.Nodes.{height_of, place_of, Follow, start_of, end_of, sibling_place, node_over, number_of, balanced_within, balanced_over, balanced_roots}
use Rattle.warg_log.specs.Ranges.{Range, leaves_from, range_of}
use Rattle.warg_log.specs.Cut.{Way, at_target, at_node, at_parts, way_over, is_beside, IsFull}
use Rattle.warg_log.specs.Walks.{read_on, needed_over, siblings_up}
use Rattle.warg_protobuf.proofs.ForCallers.{all_append, all_weaken}
use Rattle.warg_log.proofs.BalancedLemmas.{balanced_none, balanced_first, balanced_more, roots, roots_follow}
use Rattle.warg_log.proofs.WayLemmas.{counts, IsBeside, beside_decides, refuted, way_over_target, way_over-read, way_over-split, ways_from}
use Rattle.warg_log.proofs.NodeLemmas.{node_is, only_number, pow_below_pow, over_at, over_ends}

pub reverse-cons : (xs : List ℕ) (x : ℕ) → reverse (x ∷ xs) ≡ reverse xs ++ x ∷ []
reverse-cons xs x = reverse_onto xs x []

-- the way down a power of two of leaves that miss the target, which needs its own node
pub way_beside : (t r : Range) → IsFull r.count → IsBeside t r → way_over t r ≡ at_node (node_over r.start r.count)
way_beside t r full beside = grind (arith, way_over-read, counts, pow_pos)

-- the range of the node that stands d heights above the j-th one of height k
pub above : (d k j : ℕ) → (j / 2 ^ d * 2 ^ (k + d) ≤ j * 2 ^ k)
    × (j * 2 ^ k + 2 ^ k ≤ j / 2 ^ d * 2 ^ (k + d) + 2 ^ (k + d))
above d k j =
    let pos : 0 < 2 ^ d = pow_pos d in
    let low : j / 2 ^ d * 2 ^ d * 2 ^ k ≤ j * 2 ^ k = grind (arith, mul-le-mul_right) in
    let high : (j + 1) * 2 ^ k ≤ (j / 2 ^ d * 2 ^ d + 2 ^ d) * 2 ^ k = grind (arith, mul-le-mul_right) in
    rw (pow-add 2 k d) (omega arith, omega arith)

-- the leaves below the j-th node of height k
abbrev pub block : ℕ → ℕ → Range
block k j = leaves_from (j * 2 ^ k) (2 ^ k)

-- the way down to a target in the range of the i-th node of height h, from the node above: by that range's way, beside
-- the sibling's node
abbrev pub up : ℕ → ℕ → Way → Way
up h i way = if i % 2 == 0 then at_parts false way (at_node (number_of h (sibling_place i))) else at_parts true
    (at_node (number_of h (sibling_place i))) way

way_up : (t : Range) (h i : ℕ) → 0 < t.count → i * 2 ^ h ≤ t.start → t.start + t.count ≤ i * 2 ^ h + 2 ^ h
    → way_over t (block (suc h) (i / 2)) ≡ up h i (way_over t (block h i))
way_up t h i some low high =
    let split = λ (a : ℕ) (apart : IsBeside t (leaves_from a (2 ^ suc h)) → ⊥). way_over-split t
    (leaves_from a (2 ^ suc h)) h (omega (arith, pow-suc)) (omega arith) (λ same. omega (arith, pow-suc, counts))
    (λ _ b. apart ((beside_decides t _).0 b)) in
    let wide = ap (λ p. i / 2 * p) (pow-suc 2 h) in
    ⊎_elim (λ (even : i % 2 ≡ 0). let half = ap (λ m. m * 2 ^ h) (let is : i ≡ 2 * (i / 2) = omega arith in is) in
    let first = split (i * 2 ^ h) (λ b. omega arith) in
    let next = way_beside t (block h (i + 1)) (h, refl)
    (inr (omega arith)) in grind arith) (λ (odd : i % 2 ≡ 0 → ⊥). let less : i - 1 + 1 ≡ i = omega arith in let
    half = ap (λ m. m * 2 ^ h) (let is : i ≡ 2 * (i / 2) + 1 = omega arith in is) in
    let next : (i - 1) * 2 ^ h + 2
    ^ h ≡ i * 2 ^ h = omega (arith, ap (λ m. m * 2 ^ h) less) in
    let beside : IsBeside t (block h (i - 1)) = inl
    (rw next low) in
    let first = split ((i - 1) * 2 ^ h) (λ b. omega (arith, next)) in grind
    (arith, ne_eqb (i % 2) 0 odd, pow-suc 2 h, first, way_beside t (block h (i - 1)) (h, refl) beside))
    (cases_eq (i % 2) 0)

-- P holds of the way to the j-th node of height k from each node above it where it holds at that node and, if it does
-- at one, at the next
pub climb : (k j : ℕ) (P : ℕ → Way → Type 0) → P 0 at_target
    → ((d : ℕ) (way : Way) → P d way → P (suc d) (up (k + d) (j / 2 ^ d) way))
    → (d : ℕ) → P d (way_over (block k j) (block (k + d) (j / 2 ^ d)))
climb k j P here step zero = grind (arith, way_over_target (block k j))
climb k j P here step (suc d) =
    let next : k + suc d ≡ suc (k + d) = omega arith in
    let half : j / 2 ^ suc d ≡ j / 2 ^ d / 2 = grind (arith, shr-shr j d 1) in
    let at = above d k j in
    grind (arith, way_up, pow_pos, climb k j P here step d)

-- around the target, in the range of the node above it, the siblings on the way up are needed
need_around : (d k j : ℕ) → needed_over (block k j) (block (k + d) (j / 2 ^ d)) ≡ siblings_up d k j
unfolding read_on
need_around d k j = climb k j (λ d way. read_on way ≡ siblings_up d k j) refl (grind arith) d

-- leaves in front, a multiple of 2 ^ e, of fewer than 2 ^ e: their balanced roots come first
pub roots_front : (e q m : ℕ) → m < 2 ^ e → balanced_roots (q * 2 ^ e + m) ≡ balanced_roots (q * 2 ^ e) ++ balanced_over
    (q * 2 ^ e) m
roots_front e q m low =
    let w = 2 ^ e in
    let none : 0 * w ≡ 0 = omega arith in
    rw (none, zero-add) at (roots (λ a n _. balanced_over (a * w) (n * w + m) ≡ balanced_over (a * w) (n * w) ++
    balanced_over ((a + n) * w) m) (record {
      none = λ a. rw (none, zero-add, add-zero, balanced_none) refl;
      first =
          λ h c k ts lt rest. grind (
            arith,
            pow-add 2 h e,
            balanced_more (h + e) (c * 2 ^ h * w) (k * w),
            pow_pos e,
            balanced_more (h + e) (c * 2 ^ h * w) (k * w + m),
          );
    }) q)

-- the leaves up to n by the i-th node of height h, whose parent doesn't exist there: it is a balanced root
pub roots_by : (h i n a b : ℕ) → (i + 1) * 2 ^ h ≤ n → n < (i / 2 + 1) * 2 ^ suc h → a ≡ i * 2 ^ h → b ≡ a + 2 ^ h
    → balanced_roots n ≡ balanced_roots a ++ number_of h i ∷ balanced_over b (n - b)
roots_by h i n a b ends top a_is b_is =
    let two = pow-suc 2 h in
    let even : i ≡ 2 * (i / 2) = ⊎_elim (λ (e : i % 2 ≡ 0). omega arith)
    (λ (odd : i % 2 ≡ 0 → ⊥). absurd (omega (
      arith,
      rw two at top,
      ap (λ p. p * 2 ^ h)
          (let is : i ≡ 2 * (i / 2) + 1 = omega arith in is),
    ))) (cases_eq (i % 2) 0) in
    let start : i / 2 * 2 ^ suc h ≡ a = rw two (omega (arith, ap (λ p. p * 2 ^ h) even)) in
    let whole : a + (n - a) ≡ n = omega arith in
    let rest : n - a - 2 ^ h ≡ n - b = omega arith in
    grind (arith, roots_front, balanced_first)

-- ---- the way down leaves, by the ways down their balanced roots

-- the way down the balanced roots r and rs
abbrev pub spine : Range → ℕ → List ℕ → Way
spine t r [] = way_over t (range_of r)
spine t r (s ∷ rs) = at_parts (is_beside t (range_of r)) (way_over t (range_of r)) (spine t s rs)

-- the leaves below the node miss the target
abbrev pub Misses : Range → ℕ → Type 0
Misses t r = IsBeside t (range_of r)

module _ (t : Range) where
  abbrev Covers : ℕ → ℕ → List ℕ → Type 0
  Covers a n [] = n ≡ 0
  Covers a n (r ∷ rs) = (0 < n) × (way_over t (leaves_from a n) ≡ spine t r rs)

  covers_first : (0 < t.count → IsFull t.count) → (h c m : ℕ) (rs : List ℕ) → m < 2 ^ h
      → Covers (c * 2 ^ h + 2 ^ h) m rs
      → Covers (c * 2 ^ h) (2 ^ h + m) (node_over (c * 2 ^ h) (2 ^ h) ∷ rs)
  covers_first full h c m [] lt none = grind (arith, over_at)
  covers_first full h c m (u ∷ us) lt rest =
      let more : 2 ^ h < 2 ^ h + m = omega arith in
      let part : (k : ℕ) → 2 ^ h + m ≡ 2 ^ k → ⊥ = λ k is. grind (arith, pow_below_pow h k, pow_below_pow k (suc h))
      in
      let range = leaves_from (c * 2 ^ h) (2 ^ h + m) in
      let other : range ≡ t → ⊥ = grind arith in
      let split = way_over-split t range h more (omega arith) other (λ f _. part (suc h) f) in
      (omega arith, grind (arith, split, over_at h c))

  pub way_roots : (0 < t.count → IsFull t.count) → (n r : ℕ) (rs : List ℕ) → balanced_roots n ≡ r ∷ rs
      → way_over t (leaves_from 0 n) ≡ spine t r rs
  way_roots full n r rs is = (rw is at (roots Covers (record { none = λ a. refl; first = covers_first full }) n)).1

  -- a root that misses the target is read, and so the roots behind the target and before it, from right to left
  pub way_missed : (r : ℕ) → Misses t r → way_over t (range_of r) ≡ at_node r
  way_missed r miss = way_beside t (range_of r) (height_of r, refl) miss
      ∙ ap at_node (sym (only_number r (height_of r) (place_of r) (node_is r)))

  reads_others : (r : ℕ) (rs : List ℕ) → AllByRecursion (Misses t) (r ∷ rs) → read_on (spine t r rs) ≡ reverse (r ∷ rs)
  unfolding read_on
  reads_others r [] all = rw (way_missed r all.0) refl
  reads_others r (s ∷ rs) all = grind (arith, way_missed, reads_others s rs all.1, reverse-cons (s ∷ rs) r)

  reads_top : (r : ℕ) (rs : List ℕ) → (Misses t r → ⊥) → AllByRecursion (Misses t) rs → read_on (spine t r rs)
      ≡ read_on (way_over t (range_of r)) ++ reverse rs
  unfolding read_on
  reads_top r [] inside all = sym (append-nil _)
  reads_top r (s ∷ rs) inside all = grind (arith, refuted, reads_others)

  reads_left : (l : ℕ) (ls : List ℕ) (r : ℕ) (rs : List ℕ) → AllByRecursion (Misses t) (l ∷ ls)
      → read_on (spine t l (ls ++ r ∷ rs)) ≡ read_on (spine t r rs) ++ reverse (l ∷ ls)
  unfolding read_on
  reads_left l [] r rs all = grind (arith, way_missed)
  reads_left l (m ∷ ls) r rs all = grind (
    arith,
    way_missed l all.0,
    reads_left m ls r rs all.1,
    reverse-cons
        (m ∷ ls) l,
    append_assoc,
  )

  pub way_walk : (0 < t.count → IsFull t.count) → (n r : ℕ) (left right : List ℕ) → balanced_roots n ≡ left ++ r ∷ right
      → (Misses t r → ⊥) → AllByRecursion (Misses t) left → AllByRecursion (Misses t) right
      → needed_over t (leaves_from 0 n) ≡ read_on (way_over t (range_of r)) ++ reverse right ++ reverse left
  way_walk full n r [] right split inside before behind = ap read_on (way_roots full n r right split)
      ∙ reads_top r right inside behind ∙ sym (append-nil _)
  way_walk full n r (l ∷ ls) right split inside before behind = grind
      (arith, way_roots, reads_left l ls r right before, reads_top r right inside behind)

  -- all roots but the one above the target miss it
  after_beside : (a n : ℕ) (rs : List ℕ) → t.start + t.count ≤ a → Follow a n rs → AllByRecursion (Misses t) rs
  after_beside a n [] le follow = tt
  after_beside a n (r ∷ rs) le follow = grind (arith, after_beside (end_of r) n rs)

  others_beside : (a n r : ℕ) (left right : List ℕ) → start_of r ≤ t.start → t.start + t.count ≤ end_of r
      → Follow a n (left ++ r ∷ right)
      → (a ≤ t.start) × AllByRecursion (Misses t) left × AllByRecursion (Misses t) right
  others_beside a n r [] right low high follow = grind (arith, after_beside)
  others_beside a n r (l ∷ left) right low high follow = grind
      (arith, others_beside (end_of l) n r left right low high follow.1)

-- of the balanced roots, one above the j-th node of height k
module _ (k j c n : ℕ) (left right : List ℕ) (split : balanced_roots n ≡ left ++ number_of (k + c) (j / 2 ^ c) ∷ right)
  where
    pub others_miss : AllByRecursion (Misses (block k j)) left × AllByRecursion (Misses (block k j)) right
    others_miss =
        let at = over_at (k + c) (j / 2 ^ c) in
        let within = above c k j in
        let p = others_beside (block k j) 0 n (number_of (k + c) (j / 2 ^ c)) left right (grind (arith, at))
        (omega (arith, over_ends (k + c) (j / 2 ^ c))) (rw split at (roots_follow n)) in
        (p.1, p.2)

    pub needed_walk : needed_over (block k j) (leaves_from 0 n) ≡ siblings_up c k j ++ reverse right ++ reverse left
    needed_walk = grind (arith, over_at (k + c) (j / 2 ^ c), above, way_walk, pow_pos k, others_miss, need_around c k j)

-- how many the balanced roots and the siblings are
pub balanced_count : (h a n : ℕ) → length (balanced_within h a n) ≤ h
unfolding balanced_within
balanced_count zero a n = lit≤ tt
balanced_count (suc h) a n = grind (arith, balanced_count h (a + 2 ^ h) (n - 2 ^ h), balanced_count h a n)

pub siblings_count : (c k j : ℕ) → length (siblings_up c k j) ≡ c
siblings_count zero k j = refl
siblings_count (suc c) k j = search (length-append, siblings_count c k j, add-one)

-- all leaves below a node are among those from a up to e
abbrev pub Lies : ℕ → ℕ → ℕ → Type 0
Lies a e x = (a ≤ start_of x) × (end_of x ≤ e)

distinct_append : (P Q : ℕ → Type 0) → ((x y : ℕ) → P x → Q y → x ≡ y → ⊥) → (xs ys : List ℕ) → AllByRecursion P xs
    → AllByRecursion Q ys
    → IsDistinct nat_eq xs → IsDistinct nat_eq ys → IsDistinct nat_eq (xs ++ ys)
unfolding IsDistinct
distinct_append P Q apart [] ys h i d e = e
distinct_append P Q apart (x ∷ xs) ys h i d e = grind (
  arith,
  all_append,
  all_weaken,
  distinct_append P Q apart xs
      ys h.1 i d.1 e,
)

-- nodes that lie there, and of which none stands twice
pub record IsWithin (a e : ℕ) (xs : List ℕ) : Type 0 where
  pub lie : AllByRecursion (Lies a e) xs
  pub distinct : IsDistinct nat_eq xs

within_one : (k c : ℕ) → IsWithin (c * 2 ^ k) (c * 2 ^ k + 2 ^ k) (node_over (c * 2 ^ k) (2 ^ k) ∷ [])
unfolding IsDistinct
within_one k c = grind (arith, over_at)

within_both : (a m e : ℕ) (xs ys : List ℕ) → a ≤ m → m ≤ e → IsWithin a m xs → IsWithin m e ys → IsWithin a e (xs ++ ys)
    × IsWithin a e (ys ++ xs)
within_both a m e xs ys low high left right = grind (arith, all_weaken, pow_pos, all_append, distinct_append)

-- so do the needed nodes of a length, and its balanced roots
pub needed_within : (t : Range) (n : ℕ) → 0 < n → IsWithin 0 n (needed_over t (leaves_from 0 n))
unfolding read_on IsDistinct
needed_within t n some =
    let all : 0 + n ≡ n = omega arith in
    rw all at (ways_from t 0 (λ r way. IsWithin r.start (r.start + r.count) (read_on way))
    (record {
      target = λ _. record { lie = tt; distinct = tt };
      node = λ k c a start. grind (arith, within_one k c);
      parts = grind (arith, within_both);
    }) n some)

pub roots_within : (n : ℕ) → IsWithin 0 n (balanced_roots n)
unfolding IsDistinct
roots_within n = let all : 0 + n ≡ n = omega arith in rw all at (roots (λ a n ts. IsWithin a (a + n) ts) (record {
  none = λ a. record { lie = tt; distinct = tt };
  first = λ h c m ts lt rest.
      let end : c * 2 ^ h + 2 ^ h + m ≡ c * 2 ^ h + (2 ^ h + m) = omega arith in
      (within_both (c * 2 ^ h) (c * 2 ^ h + 2 ^ h) (c * 2 ^ h + (2 ^ h + m)) (_ ∷ []) ts (omega arith) (omega arith)
      (within_one h c) (rw end at rest)).0;
}) n)

-- each root ends at or before the last leaf
pub roots_end : (n e : ℕ) → n ≤ e → AllByRecursion (λ t. end_of t ≤ e) (balanced_roots n)
roots_end n e fits = grind (arith, all_weaken, roots_within)
