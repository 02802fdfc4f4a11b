-- Inclusion and consistency paths (RFC 6962, sections 2.1.1 and 2.1.2; in RFC 9162, 2.1.3.1 and 2.1.4.1). A path
-- is a list of digests from the bottom up. R has the root of each range of leaves, if there is one.
use Rattle.std.specs.Prelude.{ℕ, zero, suc, ◌-◌, ◌==◌, Bool, true, false, ◌&&◌, nat_le, nat_lt, if◌then◌else◌, List, [], ◌∷◌, ◌++◌, reverse, Option, Some, None}
use Rattle.warg_crypto.specs.Tree.{branch}
use Rattle.warg_log.specs.Ranges.{Range, leaves_from, front_part, rest_part}
use Rattle.warg_log.specs.Tree.{front_of}
use Rattle.warg_log.specs.Cut.{joined}

-- A path with one more digest above it, where both are there.
abbrev pub beside : Option (List (List ℕ)) → Option (List ℕ) → Option (List (List ℕ))
beside (Some path) (Some top) = Some (path ++ top ∷ [])
beside _ _ = None

-- The path of a range's leaf m: that in the part which has the leaf, and then the root of the other part. So many
-- steps are enough as there are leaves.
unfoldable pub path_within : (Range → Option (List ℕ)) → ℕ → ℕ → Range → Option (List (List ℕ))
path_within R zero m range = Some []
path_within R (suc steps) m range =
    if nat_le range.count 1
    then Some []
    else if nat_lt m (front_of range.count)
    then beside (path_within R steps m (front_part range)) (R (rest_part range))
    else beside (path_within R steps (m - front_of range.count) (rest_part range)) (R (front_part range))

-- The inclusion path of a range's leaf m.
abbrev pub inclusion_over : (Range → Option (List ℕ)) → ℕ → Range → Option (List (List ℕ))
inclusion_over R m range = path_within R range.count m range

-- The inclusion path of leaf m of n.
abbrev pub inclusion_of : (Range → Option (List ℕ)) → ℕ → ℕ → Option (List (List ℕ))
inclusion_of R m n = inclusion_over R m (leaves_from 0 n)

-- The path over leaves that are all old: nothing where they are the whole old log, whose root is known, and else
-- their root.
abbrev pub path_at_end : (Range → Option (List ℕ)) → Bool → Range → Option (List (List ℕ))
path_at_end R whole range = if whole then Some [] else beside (Some []) (R range)

-- The path from the first m leaves of a range to all of them. Where these m are the whole old log, their root is
-- known, and else it leads the path. So many steps are enough as there are leaves.
unfoldable pub growth_within : (Range → Option (List ℕ)) → ℕ → Bool → ℕ → Range → Option (List (List ℕ))
growth_within R zero whole m range = Some []
growth_within R (suc steps) whole m range =
    if m == range.count
    then path_at_end R whole range
    else if nat_le m (front_of range.count)
    then beside (growth_within R steps whole m (front_part range)) (R (rest_part range))
    else beside (growth_within R steps false (m - front_of range.count) (rest_part range)) (R (front_part range))

-- The consistency path from the first m leaves of a range to all of them.
abbrev pub consistency_over : (Range → Option (List ℕ)) → Bool → ℕ → Range → Option (List (List ℕ))
consistency_over R whole m range = growth_within R range.count whole m range

-- The consistency path from m leaves to n.
abbrev pub consistency_of : (Range → Option (List ℕ)) → ℕ → ℕ → Option (List (List ℕ))
consistency_of R m n = consistency_over R true m (leaves_from 0 n)

-- The root of n leaves by the digest x of leaf m and the digests of a path, the topmost first.
unfoldable pub root_down : (List ℕ → List ℕ) → ℕ → ℕ → List ℕ → List (List ℕ) → Option (List ℕ)
root_down H m n x [] = if n == 1 then Some x else None
root_down H m n x (top ∷ below) =
    if nat_le n 1
    then None
    else if nat_lt m (front_of n)
    then joined H (root_down H m (front_of n) x below) (Some top)
    else joined H (Some top) (root_down H (m - front_of n) (n - front_of n) x below)

-- The root by an inclusion path of leaf m of n.
abbrev pub inclusion_root : (List ℕ → List ℕ) → ℕ → ℕ → List ℕ → List (List ℕ) → Option (List ℕ)
inclusion_root H m n x path = if nat_lt m n then root_down H m n x (reverse path) else None

-- The one root of both lengths, where they are equal: the known one, or the digest that leads the path.
abbrev pub one_root : Option (List ℕ) → List (List ℕ) → Option (List ℕ)
one_root (Some root) [] = Some root
one_root None (root ∷ []) = Some root
one_root _ _ = None

-- The root to which a path of leaf m of n leads from the digest x, if there is a path.
abbrev pub led_to : (List ℕ → List ℕ) → ℕ → ℕ → List ℕ → Option (List (List ℕ)) → Option (List ℕ)
led_to H m n x None = None
led_to H m n x (Some path) = inclusion_root H m n x path

-- A root as the old one and the new one.
abbrev pub twice : Option (List ℕ) → Option (List ℕ × List ℕ)
twice (Some root) = Some (root, root)
twice None = None

-- The old root and the new one, over a part that both have and a digest that only the new one has.
abbrev pub grown : (List ℕ → List ℕ) → Option (List ℕ × List ℕ) → List ℕ → Option (List ℕ × List ℕ)
grown H (Some roots) right = Some (roots.0, branch H roots.1 right)
grown H None right = None

-- The old root and the new one, over a digest that both have and a part.
abbrev pub both_over : (List ℕ → List ℕ) → List ℕ → Option (List ℕ × List ℕ) → Option (List ℕ × List ℕ)
both_over H left (Some roots) = Some (branch H left roots.0, branch H left roots.1)
both_over H left None = None

-- The roots of m leaves and of n by the root of the m, where it is known, and the digests of a path, the topmost
-- first.
unfoldable pub roots_down : (List ℕ → List ℕ) → Option (List ℕ) → ℕ → ℕ → List (List ℕ) → Option (List ℕ × List ℕ)
roots_down H old m n [] = if m == n then twice (one_root old []) else None
roots_down H old m n (top ∷ below) =
    if m == n
    then twice (one_root old (top ∷ below))
    else if nat_le m (front_of n)
    then grown H (roots_down H old m (front_of n) below) top
    else both_over H top (roots_down H None (m - front_of n) (n - front_of n) below)

-- The roots of the first m of n leaves and of all n, by the root of the m, where it is known, and a path.
abbrev pub subproof_roots : (List ℕ → List ℕ) → Option (List ℕ) → ℕ → ℕ → List (List ℕ) → Option (List ℕ × List ℕ)
subproof_roots H old m n path = if nat_lt 0 m && nat_le m n then roots_down H old m n (reverse path) else None

-- The roots by a consistency path from m leaves, whose root is `old`, to n.
abbrev pub consistency_roots : (List ℕ → List ℕ) → ℕ → ℕ → List ℕ → List (List ℕ) → Option (List ℕ × List ℕ)
consistency_roots H m n old path = subproof_roots H (Some old) m n path

-- The roots to which a path from m leaves to n leads from the root of the m, if there is a path.
abbrev pub led_to_both : (List ℕ → List ℕ) → ℕ → ℕ → List ℕ → Option (List (List ℕ)) → Option (List ℕ × List ℕ)
led_to_both H m n old None = None
led_to_both H m n old (Some path) = consistency_roots H m n old path
