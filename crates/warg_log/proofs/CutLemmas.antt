-- Cut roots.
use Rattle.std.proofs.Common.{◌≡◌, ℕ, suc, true, false, ◌+◌, ◌-◌, ◌*◌, ◌^◌, ◌<◌, ◌≤◌, List, [], length, take, drop, Option, Some, refl, ap, arith, ◌⊎◌, inl, inr, IsTrue}
use Rattle.std.proofs.Math.Nat.{add-sub_of_le}
use Rattle.std.proofs.lemmas.List.{length-drop, length-take-le, drop-drop, drop-take, take-take}
use Rattle.std.proofs.Math.Seq.{take-length}
use Rattle.std.proofs.lemmas.Nat.{pow_pos}
use Rattle.warg_log.specs.Nodes.{node_over}
use Rattle.warg_log.specs.Ranges.{Range, leaves_from, range_of, front_part, rest_part}
use Rattle.warg_crypto.specs.Tree.{branch}
use Rattle.warg_log.specs.Tree.{root_of, own_digest, leaves_below, root_over}
use Rattle.warg_log.specs.Cut.{Evaluation, with_target, joined, is_target, is_beside, top_of, cut_over, cut_root, IsFull, old_over, old_root}
use Rattle.warg_log.proofs.NodeLemmas.{over_at}
use Rattle.warg_log.proofs.RootLemmas.{below_pow, root_of_split}
use Rattle.warg_log.proofs.WayLemmas.{first, behind, counts, IsBeside, target_decides, way_over_target, way_over-read, way_over-split, way_over_parts, ways}

-- a range that is read, and one that is split at its front
module _ (H : List ℕ → List ℕ) (e : Evaluation) where
  pub cut_over_read : (r : Range) → (r ≡ e.target → ⊥) → (r.count ≡ 1)
      ⊎ (IsFull r.count × IsTrue (is_beside e.target r)) → cut_over H e r ≡ e.held (node_over r.start r.count)
  unfolding top_of
  cut_over_read r other read = search way_over-read

  pub cut_over_parts : (r : Range) → 1 < r.count → (r ≡ e.target → ⊥)
      → (IsFull r.count → IsTrue (is_beside e.target r) → ⊥)
      → cut_over H e r ≡ joined H (cut_over H e (front_part r)) (cut_over H e (rest_part r))
  unfolding top_of
  cut_over_parts r more other apart = search way_over_parts

-- as a program tests it
module _ (H : List ℕ → List ℕ) (F : ℕ → Option (List ℕ)) (t : Range) (x : List ℕ) where
  abbrev e : Evaluation
  e = with_target F t x

  pub cut_found : (r : Range) → is_target t r ≡ true → cut_over H e r ≡ Some x
  unfolding top_of
  cut_found r is = grind (arith, target_decides, way_over_target)

  pub cut_read : (r : Range) → is_target t r ≡ false → (r.count ≡ 1) ⊎ (IsFull r.count × IsTrue (is_beside t r))
      → cut_over H e r ≡ F (node_over r.start r.count)
  cut_read r apart = cut_over_read H e r (grind arith)

  pub cut_split : (r : Range) → 0 < r.count → is_target t r ≡ false
      → ((r.count ≡ 1) ⊎ (IsFull r.count × IsTrue (is_beside t r)) → ⊥)
      → cut_over H e r ≡ joined H (cut_over H e (front_part r)) (cut_over H e (rest_part r))
  cut_split r some apart unread =
      let many : r.count ≡ 1 → ⊥ = λ one. unread (inl one) in
      cut_over_parts H e r (omega arith) (grind arith) (λ full beside. unread (inr (full, beside)))

-- the old root of a range of a power of two, and of any other
abbrev pub nothing : Range
nothing = leaves_from 0 0

pub nothing_beside : (r : Range) → IsBeside nothing r
nothing_beside r = grind arith

not_nothing : (r : Range) → 0 < r.count → r ≡ nothing → ⊥
not_nothing r some same = omega (arith, counts)

module _ (H : List ℕ → List ℕ) (F : ℕ → Option (List ℕ)) where
  pub old_full : (r : Range) → IsFull r.count → old_over H F r ≡ F (node_over r.start r.count)
  old_full r full = cut_over_read H _ r (not_nothing r (rw full.1 (pow_pos full.0))) (grind arith)

  pub old_over-split : (r : Range) (h : ℕ) → 2 ^ h < r.count → r.count ≤ 2 ^ suc h → (r.count ≡ 2 ^ suc h → ⊥)
      → old_over H F r ≡ joined H (old_over H F (first h r)) (old_over H F (behind h r))
  unfolding top_of
  old_over-split r h more most part = ap (top_of H F (H []))
      (way_over-split nothing r h more most (not_nothing r (omega arith)) (λ full _. part full))

  pub old_over_parts : (r : Range) → 1 < r.count → (IsFull r.count → ⊥)
      → old_over H F r ≡ joined H (old_over H F (front_part r)) (old_over H F (rest_part r))
  old_over_parts r more part = cut_over_parts H _ r more (not_nothing r (omega arith)) (λ full _. part full)

  pub old_split : (r : Range) → 0 < r.count → (IsFull r.count → ⊥)
      → old_over H F r ≡ joined H (old_over H F (front_part r)) (old_over H F (rest_part r))
  old_split r some part =
      let many : r.count ≡ 1 → ⊥ = λ one. part (0, one) in old_over_parts r (omega arith) part

-- the root over a range of more than 2 ^ h leaves, and at most twice as many
pub root_over_split : (H : List ℕ → List ℕ) (ds : List (List ℕ)) (h a n : ℕ) → 2 ^ h < n → n ≤ 2 ^ suc h
    → a + n ≤ length ds
    → root_over H ds a n ≡ branch H (root_over H ds a (2 ^ h)) (root_over H ds (a + 2 ^ h) (n - 2 ^ h))
root_over_split H ds h a n more most fits = grind (
  arith,
  length-take-le n (drop a ds),
  length-drop a ds,
  add-sub_of_le,
  drop-take,
  drop-drop,
  root_of_split H h (take n (drop a ds)),
  take-take,
)

-- a log's own digest over a range
own_over : (H : List ℕ → List ℕ) (ds : List (List ℕ)) (k c : ℕ) → c * 2 ^ k + 2 ^ k ≤ length ds
    → own_digest H ds (node_over (c * 2 ^ k) (2 ^ k)) ≡ Some (root_over H ds (c * 2 ^ k) (2 ^ k))
own_over H ds k c fits = grind (arith, over_at)

-- over a log's own digests, with the target's own digest, the cut root is the plain root
pub own_at : (H : List ℕ → List ℕ) (ds : List (List ℕ)) (x : List ℕ) (t r : Range) (h c : ℕ)
    → x ≡ root_over H ds t.start t.count → r.start ≡ c * 2 ^ h
    → 0 < r.count → r.count ≤ 2 ^ h → r.start + r.count ≤ length ds
    → cut_over H (with_target (own_digest H ds) t x) r ≡ Some (root_over H ds r.start r.count)
unfolding top_of
own_at H ds x t r h c own start = ways t 0 (λ r way. r.start + r.count ≤ length ds → top_of H (own_digest H ds) x
    way ≡ Some (root_over H ds r.start r.count)) (record {
      target = λ _ _. ap Some own;
      node = λ k c a start fits. grind (arith, own_over H ds k c);
      parts = grind
          (arith, root_over_split);
    }) h c r (omega arith)

-- over a log's own digests, with the node's own digest, the cut root is the plain root
pub cut_root_own : (H : List ℕ → List ℕ) (ds : List (List ℕ)) (t n : ℕ) (x : List ℕ) → x ≡ root_of H (leaves_below t ds)
    → 0 < n → n ≤ length ds
    → cut_root H (own_digest H ds) t x n ≡ Some (root_of H (take n ds))
cut_root_own H ds t n x own some fits = grind (arith, own_at H ds x (range_of t) (leaves_from 0 n) n 0 own, below_pow)

-- over a log's own digests, the old root is the plain root: no leaves have the digest of no bytes
pub old_root_own : (H : List ℕ → List ℕ) (ds : List (List ℕ)) (m : ℕ) → 0 < m → m ≤ length ds
    → old_root H (own_digest H ds) m ≡ Some (root_of H (take m ds))
old_root_own H ds m some fits = grind (arith, own_at H ds (H []) nothing (leaves_from 0 m) m 0 refl, below_pow)

pub own_root : (H : List ℕ → List ℕ) (ds : List (List ℕ)) (n : ℕ) → 0 < n → n ≡ length ds
    → old_root H (own_digest H ds) n ≡ Some (root_of H ds)
own_root H ds n some all = grind (arith, old_root_own, take-length)
