-- The way of an evaluation down a range.
use Rattle.std.proofs.Common.{◌≡◌, ℕ, zero, suc, ◌+◌, ◌-◌, ◌*◌, ◌^◌, ◌<◌, ◌≤◌, ◌==◌, ◌&&◌, true, false, if◌then◌else◌, Bool, refl, ap, ◌∙◌, arith, ⊎_elim, ◌⊎◌, inl, inr}
use Rattle.std.specs.Prelude.{IsTrue}
use Rattle.std.specs.Bool.{Decides}
use Rattle.std.proofs.Math.Nat.{pow-suc}
use Rattle.std.proofs.lemmas.Bool.{le-leb, false≢true, cases_lt}
use Rattle.std.proofs.lemmas.Nat.{pow_pos}
use Rattle.warg_log.specs.Nodes.{node_over}
use Rattle.warg_log.specs.Ranges.{Range, leaves_from, front_part, rest_part}
use Rattle.warg_log.specs.Cut.{is_target, is_beside, Way, at_target, at_node, at_parts, way_within, way_over, IsFull}
use Rattle.warg_log.proofs.RootLemmas.{below_pow, settled_at, front_is}

-- the first 2 ^ h leaves of a range, and those behind them
abbrev pub first : ℕ → Range → Range
first h r = leaves_from r.start (2 ^ h)

abbrev pub behind : ℕ → Range → Range
behind h r = leaves_from (r.start + 2 ^ h) (r.count - 2 ^ h)

-- a range is known by where it starts and by its count
pub same_range : (r t : Range) → r.start ≡ t.start → r.count ≡ t.count → r ≡ t
same_range r t e f = grind arith

-- ranges that are one start at one leaf, and have one count
pub starts : {r t : Range} → r ≡ t → r.start ≡ t.start
starts same = ap (λ (r : Range). r.start) same

pub counts : {r t : Range} → r ≡ t → r.count ≡ t.count
counts same = ap (λ (r : Range). r.count) same

-- the range misses the target
abbrev pub IsBeside : Range → Range → Type 0
IsBeside t r = (r.start + r.count ≤ t.start) ⊎ (t.start + t.count ≤ r.start)

-- the tests
pub target_decides : (t r : Range) → Decides (is_target t r) (r ≡ t)
target_decides t r = grind arith

pub beside_decides : (t r : Range) → Decides (is_beside t r) (IsBeside t r)
beside_decides t r = grind arith

pub refuted : {P : Type 0} (b : Bool) → Decides b P → (P → ⊥) → b ≡ false
refuted b decides other = grind arith

-- the recursion without a height
way_at : (t : Range) (h : ℕ) (r : Range) → r.count ≤ 2 ^ h → way_over t r ≡ way_within t h r
unfolding way_within
way_at t h r le = settled_at (λ k. way_within t k r) r.count r.count h (search le-leb) (omega (arith, below_pow)) le

way_more : (t r : Range) (h : ℕ) → 2 ^ h < r.count → r.count ≤ 2 ^ suc h
    → way_over t r ≡ (if is_target t r
    then at_target
    else if r.count == 2 ^ suc h && is_beside t r
    then at_node (node_over r.start r.count)
    else at_parts (is_beside t (first h r)) (way_over t (first h r)) (way_over t (behind h r)))
unfolding way_within
way_more t r h more most = grind (arith, way_at t h (first h r), way_at, pow-suc, way_at t (suc h) r most)

-- the target's own range
pub way_over_target : (t : Range) → way_over t t ≡ at_target
unfolding way_within
way_over_target t =
    let yes : is_target t t ≡ true = (target_decides t t).1 refl in
    ⊎_elim (λ more. let f = front_is t.count more in way_more t t f.0 f.2 f.3 ∙ rw yes refl)
    (λ low. way_at t 0 t low ∙ rw yes refl) (cases_lt 1 t.count)

-- a range that is read
pub way_over-read : (t r : Range) → (r ≡ t → ⊥) → (r.count ≡ 1) ⊎ (IsFull r.count × IsTrue (is_beside t r))
    → way_over t r ≡ at_node (node_over r.start r.count)
unfolding way_within
way_over-read t r other (inl one) = grind arith
way_over-read t r other (inr ((zero, one), beside)) = grind arith
way_over-read t r other (inr ((suc k, width), beside)) = grind (arith, way_more t r k, pow_pos, pow-suc, refuted)

-- any other range
pub way_over-split : (t r : Range) (h : ℕ) → 2 ^ h < r.count → r.count ≤ 2 ^ suc h → (r ≡ t → ⊥)
    → (r.count ≡ 2 ^ suc h → IsTrue (is_beside t r) → ⊥)
    → way_over t r ≡ at_parts (is_beside t (first h r)) (way_over t (first h r)) (way_over t (behind h r))
way_over-split t r h more most other apart = grind (arith, way_more t r h more most, refuted)

pub way_over_parts : (t r : Range) → 1 < r.count → (r ≡ t → ⊥) → (IsFull r.count → IsTrue (is_beside t r) → ⊥)
    → way_over t r ≡ at_parts (is_beside t (front_part r)) (way_over t (front_part r)) (way_over t (rest_part r))
way_over_parts t r more other apart = grind (arith, front_is r.count more, way_over-split)

-- P holds of each range and the way down it where it holds of the target, of a node that is read and, if it holds of
-- both parts, of a range that is split; the ranges begin a multiple of their width behind the leaf o
pub record Rule (t : Range) (o : ℕ) (P : Range → Way → Type 0) : Type 0 where
  pub target : 0 < t.count → P t at_target
  pub node : (k c a : ℕ) → a ≡ o + c * 2 ^ k → P (leaves_from a (2 ^ k)) (at_node (node_over a (2 ^ k)))
  pub parts : (h : ℕ) (r : Range) (left right : Way) → 2 ^ h < r.count → r.count ≤ 2 ^ suc h
      → (r.count ≡ 2 ^ suc h → IsTrue (is_beside t r) → ⊥) → P (first h r) left → P (behind h r) right
      → P r (at_parts (is_beside t (first h r)) left right)

at_end : (t : Range) (o : ℕ) (P : Range → Way → Type 0) → Rule t o P → (r : Range) → 0 < r.count → is_target t r ≡ true
    → P r at_target
at_end t o P R r some e = grind arith

read_at : (t : Range) (o : ℕ) (P : Range → Way → Type 0) → Rule t o P → (k c : ℕ) (r : Range) → r.start ≡ o + c * 2 ^ k
    → r.count ≡ 2 ^ k → P r (at_node (node_over r.start r.count))
read_at t o P R k c r start width = grind arith

pub ways : (t : Range) (o : ℕ) (P : Range → Way → Type 0) → Rule t o P → (h c : ℕ) (r : Range) → r.start ≡ o + c * 2 ^ h
    → 0 < r.count → r.count ≤ 2 ^ h → P r (way_over t r)
unfolding way_within
ways t o P R zero c r start some most = grind (arith, read_at t o P R 0 c r start)
ways t o P R (suc h) c r start some most =
    let twice : 2 ^ suc h ≡ 2 ^ h * 2 = pow-suc 2 h in
    let at_left : r.start ≡ o + 2 * c * 2 ^ h = start ∙ rw twice (omega arith) in
    ⊎_elim (λ more. rw (way_more t r h more most) (grind (
      arith,
      at_end,
      read_at,
      false≢true,
      ways t o P R h (2 * c) (first h r) at_left (pow_pos h),
      pow_pos,
      ways t o P
          R h (2 * c + 1) (behind h r),
    ))) (λ low. ways t o P R h (2 * c) r at_left some low) (cases_lt (2 ^ h) r.count)

pub ways_from : (t : Range) (o : ℕ) (P : Range → Way → Type 0) → Rule t o P → (n : ℕ) → 0 < n
    → P (leaves_from o n) (way_over t (leaves_from o n))
ways_from t o P R n some = grind (arith, ways t o P R n 0 (leaves_from o n), below_pow)
