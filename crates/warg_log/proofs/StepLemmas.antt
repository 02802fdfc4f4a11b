-- The steps of the walk's program.
use Rattle.std.proofs.Common.{◌≡◌, ℕ, suc, ◌+◌, ◌-◌, ◌*◌, ◌/◌, ◌^◌, ◌<◌, ◌≤◌, List, [], ◌∷◌, ◌++◌, length, map, lit≤, arith}
use Rattle.std.specs.Prelude.{reverse, nat_eq}
use Rattle.std.specs.List.{IsDistinct}
use Rattle.std.proofs.Math.Nat.{pow-le-pow_right}
use Rattle.std.proofs.lemmas.List.{length-append, length-map, length-reverse}
use Rattle.std.proofs.lemmas.Nat.{pow_pos, shr-shr}
use Rattle.warg_log.specs.declared.node.Node.{Node}
use Rattle.warg_log.specs.Nodes.{IsNode, ExistsAt, height_of, place_of, end_of, sibling_place, number_of, balanced_over, balanced_roots}
use Rattle.warg_log.specs.Ranges.{Range, range_of}
use Rattle.warg_log.specs.Private.Climbs.{IsWayUp, IsTop}
use Rattle.warg_log.specs.Walks.{needed, IsWalk, IsWalkOver}
use Rattle.warg_protobuf.proofs.ForCallers.{all_parts}
use Rattle.warg_log.proofs.NodeLemmas.{node_at, only_number, over_ends, pow_below_pow}
use Rattle.warg_log.proofs.RootLemmas.{below_pow}
use Rattle.warg_log.proofs.BalancedLemmas.{balanced_at}
use Rattle.warg_log.proofs.OrderLemmas.{siblings_count, balanced_count, roots_by, needed_walk, needed_within, roots_end}

-- the numbers of nodes
abbrev pub numbers : List Node → List ℕ
numbers xs = map (λ (m : Node). m.0) xs

-- one step up
pub one_up : (t n x y p : ℕ) (xs : List ℕ) → IsWayUp t n x xs → IsNode y (height_of x) (sibling_place (place_of x))
    → IsNode p (height_of x + 1) (place_of x / 2) → end_of p ≤ n
    → IsWayUp t n p (xs ++ y ∷ [])
one_up t n x y p xs way sib par exists =
    let at = node_at p (height_of x + 1) (place_of x / 2) par in
    let d = height_of x - height_of t in
    let half : place_of p ≡ place_of t / 2 ^ suc d = grind (arith, shr-shr (place_of t) d 1) in
    let number : y ≡ number_of (height_of t + d) (sibling_place (place_of t / 2 ^ d)) = grind (arith, only_number y)
    in
    grind arith

pub not_up : (x n : ℕ) → n ≤ 2 ^ 63 → 63 ≤ height_of x → IsTop x n
not_up x n fits high = omega (arith, fits, pow-le-pow_right {n = 2} (lit≤ tt) high)

pub no_parent : (x p n : ℕ) → IsNode p (height_of x + 1) (place_of x / 2) → (end_of p ≤ n → ⊥) → IsTop x n
no_parent x p n is late = grind (arith, node_at)

-- at its end the walk from t, with the balanced roots right and left of it
pub walk_at : (t n r e : ℕ) (leaves : Range) (xs ys zs : List Node) → IsWayUp t n r (numbers xs) → IsTop r n
    → leaves ≡ range_of r → e ≡ leaves.start + leaves.count
    → numbers ys ≡ numbers xs ++ reverse (balanced_over e (n - e))
    → numbers zs ≡ numbers ys ++ reverse (balanced_roots leaves.start)
    → (numbers zs ≡ needed t n) × IsWalk t n (numbers zs) (length xs) (length ys - length xs)
    (length zs - length xs - (length ys - length xs))
walk_at t n r e leaves xs ys zs way top range end right left = grind
    (arith, roots_by, needed_walk, length-map, siblings_count, length-append, length-reverse)

pub needed_once : (x n : ℕ) → ExistsAt x n → IsDistinct nat_eq (needed x n)
needed_once x n exists = grind (arith, needed_within, pow_pos)

-- a length of b binary digits has at most b balanced roots, and below each at most b - 1 siblings on the way up
pub walk_most : (x n b i l upper : ℕ) (nodes : List ℕ) → IsWalkOver x 0 n nodes i l upper → n < 2 ^ b
    → length nodes ≤ 2 * (b - 1)
walk_most x n b i l upper nodes walk lt =
    let k = height_of x + i in
    let ends = (all_parts (λ t. end_of t ≤ n) walk.left _ (rw walk.roots at (roots_end n n (omega arith)))).1.0 in
    let low : k < b = grind (arith, pow_below_pow, over_ends) in
    let few : length (balanced_over 0 n) ≤ b = rw (balanced_at n b 0 n (below_pow n) lt) (balanced_count b 0 n) in
    grind (arith, length-append, length-reverse, siblings_count)
