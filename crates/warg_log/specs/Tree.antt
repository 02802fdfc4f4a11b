-- The tree over a list of leaf digests (RFC 6962, section 2.1), and a log's digests by node.
use Rattle.std.specs.Prelude.{ℕ, zero, suc, ◌-◌, ◌*◌, ◌^◌, nat_le, if◌then◌else◌, List, [], ◌∷◌, length, take, drop, map, Option, Some, None, unwrap_or}
use Rattle.std.specs.List.{range_with_len}
use Rattle.warg_crypto.specs.Tree.{leaf_digest, branch}
use Rattle.warg_log.specs.Nodes.{height_of, start_of, end_of}

-- The leaf digests of entries (RFC 6962, section 2.1).
abbrev pub leaves_of : (List ℕ → List ℕ) → List (List ℕ) → List (List ℕ)
leaves_of H entries = map (leaf_digest H) entries

-- The greatest power of two below n that is at most 2 ^ h, or 1. `laws::front_is_greatest` says so of
-- `front_of`.
unfoldable pub front_within : ℕ → ℕ → ℕ
front_within zero n = 1
front_within (suc h) n = if nat_le n (2 ^ suc h) then front_within h n else 2 ^ suc h

-- The greatest power of two below n, for n above 1.
unfoldable pub front_of : ℕ → ℕ
front_of n = front_within n n

-- The first of a list, or no bytes.
abbrev pub first_of : List (List ℕ) → List ℕ
first_of [] = []
first_of (d ∷ ds) = d

-- The root of at least one and at most 2 ^ h digests. Of more than 2 ^ h and at most 2 ^ (h + 1), the
-- left part are the first 2 ^ h. `laws::root_of_more` states the standard's own recursion.
unfoldable pub root_within : (List ℕ → List ℕ) → ℕ → List (List ℕ) → List ℕ
root_within H zero ds = first_of ds
root_within H (suc h) ds =
    if nat_le (length ds) (2 ^ h)
    then root_within H h ds
    else branch H (root_within H h (take (2 ^ h) ds)) (root_within H h (drop (2 ^ h) ds))

-- The root of a list of leaf digests (RFC 6962, section 2.1: the Merkle Tree Hash). A list of n has
-- at most 2 ^ n.
abbrev pub root_of : (List ℕ → List ℕ) → List (List ℕ) → List ℕ
root_of H [] = H []
root_of H (d ∷ ds) = root_within H (length (d ∷ ds)) (d ∷ ds)

-- Digests joined from the right: the first, and then those behind it as one; `none` of none.
abbrev pub from_right : {X : Type 0} → (X → X → X) → X → List X → X
from_right join none [] = none
from_right join none (d ∷ []) = d
from_right join none (d ∷ e ∷ ds) = join d (from_right join none (e ∷ ds))

-- The root of n of the leaf digests from a on.
abbrev pub root_over : (List ℕ → List ℕ) → List (List ℕ) → ℕ → ℕ → List ℕ
root_over H ds a n = root_of H (take n (drop a ds))

-- The leaf digests below a node.
abbrev pub leaves_below : ℕ → List (List ℕ) → List (List ℕ)
leaves_below x ds = take (2 ^ height_of x) (drop (start_of x) ds)

-- What a log of these leaf digests holds at a node: the root of the leaves below it, if it exists.
abbrev pub own_digest : (List ℕ → List ℕ) → List (List ℕ) → ℕ → Option (List ℕ)
own_digest H ds x = if nat_le (end_of x) (length ds) then Some (root_of H (leaves_below x ds)) else None

-- What stands at a node's place of a log's slice: what the log holds there, else the digest of no bytes.
abbrev pub digest_or_spacer : (List ℕ → List ℕ) → List (List ℕ) → ℕ → List ℕ
digest_or_spacer H ds x = unwrap_or (own_digest H ds x) (H [])

-- The slice of a log of these leaf digests: the digests of the nodes by their numbers, up to the last
-- leaf's, 2 * n - 1 for n leaves.
abbrev pub slice_of : (List ℕ → List ℕ) → List (List ℕ) → List (List ℕ)
slice_of H ds = map (digest_or_spacer H ds) (range_with_len 0 (2 * length ds - 1))

-- The leaf digests of a slice: those at its even places.
abbrev pub leaves_in : List (List ℕ) → List (List ℕ)
leaves_in [] = []
leaves_in (d ∷ []) = d ∷ []
leaves_in (d ∷ s ∷ rest) = d ∷ leaves_in rest
