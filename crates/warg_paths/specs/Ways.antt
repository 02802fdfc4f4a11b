-- What the digest function takes in the evaluations of paths, and where two of its inputs stand. The digests of a path
-- are given from the topmost down, as the recursion over the leaves meets them.
use Rattle.std.specs.Prelude.{◌≡◌, ℕ, ◌+◌, ◌-◌, ◌<◌, ◌≤◌, ◌⊎◌, nat_lt, nat_le, if◌then◌else◌, Bool, List, ◌∷◌, reverse, Option, Some, None}
use Rattle.warg_crypto.specs.Tree.{branch_input, where_both}
use Rattle.warg_log.specs.Tree.{front_of}
use Rattle.warg_paths.specs.Paths.{root_down, roots_down}

-- Whether leaf m of n is in the rest of them, and not in the front part.
abbrev pub is_right : ℕ → ℕ → Bool
is_right m n = nat_le (front_of n) m

-- The leaf's number in the part that has it.
abbrev pub leaf_in : ℕ → ℕ → ℕ
leaf_in m n = if is_right m n then m - front_of n else m

-- The count of that part.
abbrev pub count_in : ℕ → ℕ → ℕ
count_in m n = if is_right m n then n - front_of n else front_of n

-- The first leaf of that part, where a is the first of all n.
abbrev pub start_in : ℕ → ℕ → ℕ → ℕ
start_in m a n = if is_right m n then a + front_of n else a

-- The ranges of the recursion on the way to leaf m₀ of the n₀ leaves from a₀ on, each with the leaf's number m in
-- it, its first leaf, its count and the digests that are left there: the whole with all digests, and of each range
-- of more than one leaf the part that has the leaf, with the digests below the topmost one.
pub data IsOnWay (m₀ a₀ n₀ : ℕ) (digests₀ : List (List ℕ)) : ℕ → ℕ → ℕ → List (List ℕ) → Type 0 where
  whole : IsOnWay m₀ a₀ n₀ digests₀ m₀ a₀ n₀ digests₀
  front : (m a n : ℕ) (top : List ℕ) (below : List (List ℕ)) → IsOnWay m₀ a₀ n₀ digests₀ m a n (top ∷ below) → 1 < n → m < front_of n
      → IsOnWay m₀ a₀ n₀ digests₀ m a (front_of n) below
  rest : (m a n : ℕ) (top : List ℕ) (below : List (List ℕ)) → IsOnWay m₀ a₀ n₀ digests₀ m a n (top ∷ below) → 1 < n → front_of n ≤ m
      → IsOnWay m₀ a₀ n₀ digests₀ (m - front_of n) (a + front_of n) (n - front_of n) below

-- The evaluation's input at a range of n leaves, of which leaf m has the digest x: that of the branch over the root
-- of the part that has the leaf, by the digests below, and the topmost digest, each on its side.
abbrev pub turn_input : (List ℕ → List ℕ) → List ℕ → ℕ → ℕ → List ℕ → List (List ℕ) → Option (List ℕ)
turn_input H x m n top below =
    if nat_lt m (front_of n)
    then where_both branch_input (root_down H m (front_of n) x below) (Some top)
    else where_both branch_input (Some top) (root_down H (m - front_of n) (n - front_of n) x below)

-- For two inclusion paths of leaf m of n, the one from the leaf digest x, the other from y: both evaluations' inputs at
-- one range on the way to the leaf, in the order given.
pub record ArePathInputs (H : List ℕ → List ℕ) (m n : ℕ) (x : List ℕ) (xs : List (List ℕ)) (y : List ℕ) (ys : List (List ℕ)) (first second : List ℕ) : Type 0 where
  pub leaf : ℕ
  pub from : ℕ
  pub count : ℕ
  pub top : List ℕ
  pub other_top : List ℕ
  pub below : List (List ℕ)
  pub other_below : List (List ℕ)
  pub on_way : IsOnWay m 0 n (reverse xs) leaf from count (top ∷ below)
  pub other_on_way : IsOnWay m 0 n (reverse ys) leaf from count (other_top ∷ other_below)
  pub first_evaluation : turn_input H x leaf count top below ≡ Some first
  pub second_evaluation : turn_input H y leaf count other_top other_below ≡ Some second

-- The ranges of the recursion on the way to the end of the first m₀ of n₀ leaves, each with the root of its old leaves,
-- where it is known, their count m, its first leaf, its count and the digests that are left there: the whole with all
-- digests, and of each range that isn't all old the part in which the old leaves end, with the digests below the topmost
-- one. In the rest of a range the root of the old leaves isn't known.
pub data IsOnGrowth (known₀ : Option (List ℕ)) (m₀ n₀ : ℕ) (digests₀ : List (List ℕ)) : Option (List ℕ) → ℕ → ℕ → ℕ → List (List ℕ) → Type 0 where
  whole : IsOnGrowth known₀ m₀ n₀ digests₀ known₀ m₀ 0 n₀ digests₀
  front : (known : Option (List ℕ)) (m a n : ℕ) (top : List ℕ) (below : List (List ℕ)) → IsOnGrowth known₀ m₀ n₀ digests₀ known m a n (top ∷ below) → m < n → m ≤ front_of n
      → IsOnGrowth known₀ m₀ n₀ digests₀ known m a (front_of n) below
  rest : (known : Option (List ℕ)) (m a n : ℕ) (top : List ℕ) (below : List (List ℕ)) → IsOnGrowth known₀ m₀ n₀ digests₀ known m a n (top ∷ below) → m < n → front_of n < m
      → IsOnGrowth known₀ m₀ n₀ digests₀ None (m - front_of n) (a + front_of n) (n - front_of n) below

-- The old one of two roots, where they are there.
abbrev pub old_of : Option (List ℕ × List ℕ) → Option (List ℕ)
old_of (Some roots) = Some roots.0
old_of None = None

-- The new one of two roots, where they are there.
abbrev pub new_of : Option (List ℕ × List ℕ) → Option (List ℕ)
new_of (Some roots) = Some roots.1
new_of None = None

-- The evaluation's input for the old root at a range whose old leaves end in its rest: that of the branch over the
-- topmost digest and the old root of the rest, by the digests below.
abbrev pub old_turn_input : (List ℕ → List ℕ) → ℕ → ℕ → List ℕ → List (List ℕ) → Option (List ℕ)
old_turn_input H m n top below = where_both branch_input (Some top) (old_of (roots_down H None (m - front_of n) (n - front_of n) below))

-- Its input for the new root at a range: that of the branch over the new root of the part in which the old leaves end,
-- by the digests below, and the topmost digest, each on its side.
abbrev pub new_turn_input : (List ℕ → List ℕ) → Option (List ℕ) → ℕ → ℕ → List ℕ → List (List ℕ) → Option (List ℕ)
new_turn_input H known m n top below =
    if nat_le m (front_of n)
    then where_both branch_input (new_of (roots_down H known m (front_of n) below)) (Some top)
    else where_both branch_input (Some top) (new_of (roots_down H None (m - front_of n) (n - front_of n) below))

-- Two inputs at one range, by the digests that two paths leave there: both for the old root, or both for the new one.
abbrev pub AreTurns : (List ℕ → List ℕ) → Option (List ℕ) → Option (List ℕ) → ℕ → ℕ → List (List ℕ) → List (List ℕ) → List ℕ → List ℕ → Type 0
AreTurns H known other m n (top ∷ below) (other_top ∷ other_below) first second =
    ((front_of n < m) × (old_turn_input H m n top below ≡ Some first) × (old_turn_input H m n other_top other_below ≡ Some second))
    ⊎ ((new_turn_input H known m n top below ≡ Some first) × (new_turn_input H other m n other_top other_below ≡ Some second))
AreTurns H known other m n _ _ first second = ⊥

-- For two consistency paths from m leaves to n, the one from the old root r, the other from s: both evaluations' inputs
-- for the old root, or for the new one, at one range on the way that isn't all old, in the order given.
pub record AreGrowthInputs (H : List ℕ → List ℕ) (m n : ℕ) (r : List ℕ) (xs : List (List ℕ)) (s : List ℕ) (ys : List (List ℕ)) (first second : List ℕ) : Type 0 where
  pub known : Option (List ℕ)
  pub other_known : Option (List ℕ)
  pub old_count : ℕ
  pub from : ℕ
  pub count : ℕ
  pub digests : List (List ℕ)
  pub other_digests : List (List ℕ)
  pub on_way : IsOnGrowth (Some r) m n (reverse xs) known old_count from count digests
  pub other_on_way : IsOnGrowth (Some s) m n (reverse ys) other_known old_count from count other_digests
  pub more : old_count < count
  pub turns : AreTurns H known other_known old_count count digests other_digests first second
