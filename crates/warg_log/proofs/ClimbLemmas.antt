-- Which nodes balanced roots are, and the cut root by the digests of a walk, in its order.
use Rattle.std.proofs.Common.{◌≡◌, ℕ, suc, ◌+◌, ◌-◌, ◌/◌, ◌^◌, ◌<◌, ◌≤◌, List, [], ◌∷◌, ◌++◌, map, Option, Some, refl, sym, ap, ◌∙◌, arith, lit≤}
use Rattle.std.specs.List.{AllByRecursion}
use Rattle.std.proofs.Math.Nat.{pow-le-pow_right}
use Rattle.std.proofs.lemmas.Nat.{pow_pos}
use Rattle.std.proofs.lemmas.List.{map-append}
use Rattle.warg_log.specs.Nodes.{height_of, place_of, end_of, number_of, balanced_over, balanced_roots, Follow, Fall}
use Rattle.warg_log.specs.Ranges.{leaves_from, range_of}
use Rattle.warg_log.specs.Cut.{Evaluation, with_target, joined, top_of, cut_over, cut_root, old_root, IsFull}
use Rattle.warg_log.specs.Walks.{climbed, joined_all}
use Rattle.warg_protobuf.proofs.ForCallers.{all_weaken}
use Rattle.warg_log.proofs.NodeLemmas.{node_is, over_at}
use Rattle.warg_log.proofs.CutLemmas.{nothing, nothing_beside}
use Rattle.warg_log.proofs.BalancedLemmas.{balanced_first, none_left, has_first_over}
use Rattle.warg_log.proofs.OrderLemmas.{roots_end, block, climb, spine, Misses, way_roots, way_missed, others_miss}

-- ---- only the balanced roots follow one another with heights that fall

fall_bound : (h a e : ℕ) (ts : List ℕ) → Fall h ts → Follow a e ts → (a ≤ e) × (e < a + 2 ^ h)
fall_bound h a e [] fall follow = (omega arith, omega (arith, pow_pos))
fall_bound h a e (t ∷ ts) fall follow =
    let rest = fall_bound (height_of t) (end_of t) e ts fall.1 follow.1 in
    let grows : 2 ^ suc (height_of t) ≤ 2 ^ h = pow-le-pow_right (lit≤ tt) fall.0 in
    grind arith

only_row : (h a e : ℕ) (ts : List ℕ) → Follow a e ts → Fall h ts → ts ≡ balanced_over a (e - a)
only_row h a e [] follow fall = sym (none_left a e (omega arith))
only_row h a e (t ∷ ts) follow fall =
    let bound = fall_bound (height_of t) (end_of t) e ts fall.1 follow.1 in
    let ends : end_of t ≡ a + 2 ^ height_of t = omega arith in
    let first = balanced_first (height_of t) a (e - a) (omega (arith, ends)) (omega (arith, bound, ends)) in
    grind (arith, node_is t, only_row (height_of t) (end_of t) e ts follow.1 fall.1)

pub balanced_roots_only : (n h : ℕ) (ts : List ℕ) → Follow 0 n ts → Fall h ts → ts ≡ balanced_roots n
balanced_roots_only n h ts follow fall = grind (arith, only_row)

-- ---- a cut root joins those of the balanced roots

module _ (H : List ℕ → List ℕ) (e : Evaluation) where
  -- what stands over a node's range
  abbrev range_cut : ℕ → Option (List ℕ)
  range_cut t = cut_over H e (range_of t)

  top_spine : (r : ℕ) (rs : List ℕ) → top_of H e.held e.digest (spine e.target r rs)
      ≡ joined_all H (map range_cut (r ∷ rs))
  unfolding top_of
  top_spine r [] = refl
  top_spine r (s ∷ rs) = ap (joined H (range_cut r)) (top_spine s rs)

  cut_roots : (0 < e.target.count → IsFull e.target.count) → (n : ℕ) → 0 < n → cut_over H e (leaves_from 0 n)
      ≡ joined_all H (map range_cut (balanced_roots n))
  cut_roots full n some = let f = has_first_over 0 n some in
      ap (top_of H e.held e.digest) (way_roots e.target full n _ _ f.2) ∙ top_spine _ _ ∙ rw f.2 refl

  all_read : (ts : List ℕ) → AllByRecursion (Misses e.target) ts → map range_cut ts ≡ map e.held ts
  unfolding top_of
  all_read [] all = refl
  all_read (t ∷ ts) all =
      rw (way_missed e.target t all.0, all_read ts all.1) refl

pub old_root-joined : (H : List ℕ → List ℕ) (F : ℕ → Option (List ℕ)) (n : ℕ) → 0 < n
    → old_root H F n ≡ joined_all H (map F (balanced_roots n))
old_root-joined H F n some =
    let old : Evaluation = with_target F nothing (H []) in
    let free = all_weaken (λ t. end_of t ≤ n) (Misses nothing) (λ t _. nothing_beside (range_of t)) (balanced_roots n)
    (roots_end n n (omega arith)) in
    cut_roots H old (λ lt. absurd (omega arith)) n some ∙ ap (joined_all H) (all_read H old (balanced_roots n) free)

-- up to a balanced root
climb_cut : (H : List ℕ → List ℕ) (F : ℕ → Option (List ℕ)) (x : List ℕ) (k j c : ℕ)
    → cut_over H (with_target F (block k j) x) (block (k + c) (j / 2 ^ c)) ≡ climbed H F (Some x) k j c
unfolding top_of
climb_cut H F x k j c = climb k j (λ d way. top_of H F x way ≡ climbed H F (Some x) k j d) refl (grind arith) c

pub cut_root_walk : (H : List ℕ → List ℕ) (F : ℕ → Option (List ℕ)) (t : ℕ) (x : List ℕ) (n c : ℕ) (left right : List ℕ)
    → 0 < n
    → balanced_roots n ≡ left ++ number_of (height_of t + c) (place_of t / 2 ^ c) ∷ right
    → cut_root H F t x n ≡ joined_all H (map F left ++ climbed H F (Some x) (height_of t) (place_of t) c ∷ map F right)
cut_root_walk H F t x n c left right some split =
    let e = with_target F (range_of t) x in
    let k = height_of t + c in
    let i = place_of t / 2 ^ c in
    let at = over_at k i in
    let beside = others_miss (height_of t) (place_of t) c n left right split in
    let here : range_cut H e (number_of k i) ≡ climbed H F (Some x) (height_of t) (place_of t) c = grind
    (arith, climb_cut) in
    cut_roots H e (λ _. (height_of t, refl)) n some ∙ rw
    (split, map-append, here, all_read H e left beside.0, all_read H e right beside.1) refl
