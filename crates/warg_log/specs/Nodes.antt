-- The nodes of a log's tree by their numbers (the numbering of Dat and of bin_trees, "flat in-order
-- trees": leaf i is 2 * i, and a branch lies between its children).
use Rattle.std.specs.Prelude.{◌≡◌, ℕ, zero, suc, ◌+◌, ◌-◌, ◌*◌, ◌/◌, ◌%◌, ◌^◌, ◌<◌, ◌≤◌, ◌==◌, nat_le, if◌then◌else◌, List, [], ◌∷◌}

-- The number x is the j-th node of height k, from 0: x + 1 = 2 ^ k * (2 * j + 1). It stands for the
-- leaves from j * 2 ^ k up to but not including (j + 1) * 2 ^ k.
abbrev pub IsNode : ℕ → ℕ → ℕ → Type 0
IsNode x k j = x + 1 ≡ 2 ^ k * (2 * j + 1)

-- The height of a number's node, by halving: 0 for an even number, else one more than that of its
-- half. The fuel is enough where it is at least the number. `laws::number_is_node` says that each number
-- is the node of its height and its place, and of no other.
unfoldable pub height_within : ℕ → ℕ → ℕ
height_within zero x = 0
height_within (suc fuel) x = if x % 2 == 0 then 0 else suc (height_within fuel (x / 2))

-- The height of a number's node.
unfoldable pub height_of : ℕ → ℕ
height_of x = height_within x x

-- The place of a node among those of its height, from 0.
unfoldable pub place_of : ℕ → ℕ
place_of x = x / 2 ^ (height_of x + 1)

-- The first leaf below a node.
abbrev pub start_of : ℕ → ℕ
start_of x = place_of x * 2 ^ height_of x

-- The leaf after the last one below a node.
abbrev pub end_of : ℕ → ℕ
end_of x = (place_of x + 1) * 2 ^ height_of x

-- A node exists at a length where all its leaves lie below that length.
abbrev pub ExistsAt : ℕ → ℕ → Type 0
ExistsAt x n = end_of x ≤ n

-- The place beside the j-th: the two have one parent.
abbrev pub sibling_place : ℕ → ℕ
sibling_place j = if j % 2 == 0 then j + 1 else j - 1

-- The number of the node over n leaves from a on, for n a power of two and a a multiple of n.
abbrev pub node_over : ℕ → ℕ → ℕ
node_over a n = 2 * a + n - 1

-- The number of the j-th node of height k.
abbrev pub number_of : ℕ → ℕ → ℕ
number_of k j = node_over (j * 2 ^ k) (2 ^ k)

-- The nodes that the h lowest binary digits of n cut from the leaves from a on, greatest first.
-- `laws::balanced_full` and `balanced_parts` state the recursion, and `balanced_in_a_row` what they are.
unfoldable pub balanced_within : ℕ → ℕ → ℕ → List ℕ
balanced_within zero a n = []
balanced_within (suc h) a n =
    if nat_le (2 ^ h) n
    then node_over a (2 ^ h) ∷ balanced_within h (a + 2 ^ h) (n - 2 ^ h)
    else balanced_within h a n

-- The balanced roots of the n leaves from a on: a number n has at most n binary digits.
abbrev pub balanced_over : ℕ → ℕ → List ℕ
balanced_over a n = balanced_within n a n

-- The balanced roots of a length: the nodes that its binary digits cut from the left, greatest first.
abbrev pub balanced_roots : ℕ → List ℕ
balanced_roots n = balanced_over 0 n

-- The leaves below these nodes, one node after the other, are those from a up to but not including e.
abbrev pub Follow : ℕ → ℕ → List ℕ → Type 0
Follow a e [] = a ≡ e
Follow a e (t ∷ ts) = (start_of t ≡ a) × Follow (end_of t) e ts

-- The first node is lower than h, and each further one is lower than the one before it.
abbrev pub Fall : ℕ → List ℕ → Type 0
Fall h [] = Unit {0}
Fall h (t ∷ ts) = (height_of t < h) × Fall (height_of t) ts
