-- The nodes that the cut root reads.
use Rattle.std.specs.Prelude.{◌≡◌, ℕ, zero, suc, length, reverse, ◌/◌, ◌%◌, ◌+◌, ◌^◌, ◌==◌, if◌then◌else◌, List, [], ◌∷◌, ◌++◌, Option, None, IsSome}
use Rattle.std.specs.List.{flat_map}
use Rattle.warg_log.specs.Nodes.{height_of, place_of, sibling_place, number_of, balanced_over, balanced_roots}
use Rattle.warg_log.specs.Ranges.{Range, leaves_from, range_of}
use Rattle.warg_log.specs.Tree.{from_right}
use Rattle.warg_log.specs.Cut.{joined, Way, at_target, at_node, at_parts, way_over}

-- The nodes at which a way reads. Those of the part that holds the target come first; where neither does,
-- those of the right part. `laws::needed_target`, `needed_beside` and `needed_parts` state the recursion.
unfoldable pub read_on : Way → List ℕ
read_on at_target = []
read_on (at_node t) = t ∷ []
read_on (at_parts misses left right) = if misses then read_on right ++ read_on left else read_on left ++ read_on right

-- The nodes at which cut_over reads.
abbrev pub needed_over : Range → Range → List ℕ
needed_over target range = read_on (way_over target range)

-- The needed nodes of the node t at length n: those at which cut_root reads.
abbrev pub needed : ℕ → ℕ → List ℕ
needed t n = needed_over (range_of t) (leaves_from 0 n)

-- Each of the nodes has a digest.
abbrev pub IsKnown : (ℕ → Option (List ℕ)) → List ℕ → Type 0
IsKnown F [] = Unit {0}
IsKnown F (x ∷ xs) = IsSome (F x) × IsKnown F xs

-- The siblings on the first c steps up from the j-th node of height k.
abbrev pub siblings_up : ℕ → ℕ → ℕ → List ℕ
siblings_up zero k j = []
siblings_up (suc c) k j = siblings_up c k j ++ number_of (k + c) (sibling_place (j / 2 ^ c)) ∷ []

-- The walk from the node t over the n leaves from a on: the siblings on the way up to a balanced root,
-- and then the balanced roots right of that root and those left of it, both from right to left. The
-- three parts have `initial`, `lower` and `upper` nodes. `laws::cut_by_walk` joins their digests in this
-- order.
pub record IsWalkOver (t a n : ℕ) (nodes : List ℕ) (initial lower upper : ℕ) : Type 0 where
  pub left : List ℕ
  pub right : List ℕ
  pub roots : balanced_over a n ≡ left ++ number_of (height_of t + initial) (place_of t / 2 ^ initial) ∷ right
  pub order : nodes ≡ siblings_up initial (height_of t) (place_of t) ++ reverse right ++ reverse left
  pub lower_count : length right ≡ lower
  pub upper_count : length left ≡ upper

-- The walk from the node t at length n.
abbrev pub IsWalk : ℕ → ℕ → List ℕ → ℕ → ℕ → ℕ → Type 0
IsWalk t n nodes initial lower upper = IsWalkOver t 0 n nodes initial lower upper

-- What the digest at the j-th node of height k becomes on the first c steps up, joined with the digests
-- that F has for the siblings, the lower number's on the left.
abbrev pub climbed : (List ℕ → List ℕ) → (ℕ → Option (List ℕ)) → Option (List ℕ) → ℕ → ℕ → ℕ → Option (List ℕ)
climbed H F x k j zero = x
climbed H F x k j (suc c) =
    if j / 2 ^ c % 2 == 0
    then joined H (climbed H F x k j c) (F (number_of (k + c) (sibling_place (j / 2 ^ c))))
    else joined H (F (number_of (k + c) (sibling_place (j / 2 ^ c)))) (climbed H F x k j c)

-- Digests joined from the right, where all are there.
abbrev pub joined_all : (List ℕ → List ℕ) → List (Option (List ℕ)) → Option (List ℕ)
joined_all H = from_right (joined H) None

-- The nodes that a consistency proof from m to n needs: each balanced root of m, and the nodes that it
-- needs at n.
abbrev pub needed_between : ℕ → ℕ → List ℕ
needed_between m n = flat_map (λ t. t ∷ needed t n) (balanced_roots m)
