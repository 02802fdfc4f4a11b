-- The tree with a digest put in the place of one node, the target, from the digests of other nodes.
use Rattle.std.specs.Prelude.{◌≡◌, ℕ, zero, suc, ◌+◌, ◌-◌, ◌^◌, Bool, ◌&&◌, ◌||◌, ◌==◌, nat_le, if◌then◌else◌, List, [], Option, Some}
use Rattle.warg_log.specs.Nodes.{node_over}
use Rattle.warg_log.specs.Ranges.{Range, leaves_from, range_of}
use Rattle.warg_log.specs.Tree.{root_over, own_digest}
use Rattle.warg_crypto.specs.Tree.{branch, where_both}

-- The digest of a branch, where both its parts have one.
abbrev pub joined : (List ℕ → List ℕ) → Option (List ℕ) → Option (List ℕ) → Option (List ℕ)
joined H = where_both (branch H)

-- What an evaluation goes by: the digests that are held for some nodes, the target, and the digest in its place.
pub record Evaluation : Type 0 where
  pub held : ℕ → Option (List ℕ)
  pub target : Range
  pub digest : List ℕ

-- The evaluation over the digests F with the digest x in the target's place.
abbrev pub with_target : (ℕ → Option (List ℕ)) → Range → List ℕ → Evaluation
with_target F target x = record { held = F; target = target; digest = x }

-- The range is the target.
abbrev pub is_target : Range → Range → Bool
is_target target range = range.start == target.start && range.count == target.count

-- The range misses the target.
abbrev pub is_beside : Range → Range → Bool
is_beside target range = nat_le (range.start + range.count) target.start || nat_le (target.start + target.count) range.start

-- How an evaluation goes down a range: the range is the target, or a node whose digest is read, or it has
-- two parts. Of these it says whether the first one misses the target.
pub data Way : Type 0 where
  at_target : Way
  at_node : ℕ → Way
  at_parts : Bool → Way → Way → Way

-- The way down a range of at least one and at most 2 ^ h leaves (RFC 6962, section 2.1): a range that misses
-- the target and has a power of two of leaves is read, and any other but the target is split behind its
-- first leaves, as many as the greatest power of two below its count. `laws::cut_target`, `cut_beside` and
-- `cut_parts` state this recursion, and `needed_target`, `needed_beside` and `needed_parts` what it reads.
unfoldable pub way_within : Range → ℕ → Range → Way
way_within target zero range = if is_target target range then at_target else at_node (node_over range.start range.count)
way_within target (suc h) range =
    let front = leaves_from range.start (2 ^ h) in
    if nat_le range.count (2 ^ h)
    then way_within target h range
    else if is_target target range
    then at_target
    else if range.count == 2 ^ suc h && is_beside target range
    then at_node (node_over range.start range.count)
    else at_parts (is_beside target front) (way_within target h front) (way_within target h (leaves_from (range.start + 2 ^ h) (range.count - 2 ^ h)))

-- The way down any range: n leaves are at most 2 ^ n.
abbrev pub way_over : Range → Range → Way
way_over target range = way_within target range.count range

-- What a way comes to: the digest x at the target, that which F holds at a node, and the branch of two parts. None
-- where F lacks a digest.
unfoldable pub top_of : (List ℕ → List ℕ) → (ℕ → Option (List ℕ)) → List ℕ → Way → Option (List ℕ)
top_of H F x at_target = Some x
top_of H F x (at_node t) = F t
top_of H F x (at_parts misses left right) = joined H (top_of H F x left) (top_of H F x right)

-- The cut root of a range: what the way down it comes to.
abbrev pub cut_over : (List ℕ → List ℕ) → Evaluation → Range → Option (List ℕ)
cut_over H e range = top_of H e.held e.digest (way_over e.target range)

-- The evaluation over a log's own digests, with the target's own digest.
abbrev pub with_own : (List ℕ → List ℕ) → List (List ℕ) → Range → Evaluation
with_own H ds target = with_target (own_digest H ds) target (root_over H ds target.start target.count)

-- The cut root at length n, for the node t and the digest x in its place.
abbrev pub cut_root : (List ℕ → List ℕ) → (ℕ → Option (List ℕ)) → ℕ → List ℕ → ℕ → Option (List ℕ)
cut_root H F t x n = cut_over H (with_target F (range_of t) x) (leaves_from 0 n)

-- The range has a power of two of leaves.
abbrev pub IsFull : ℕ → Type 0
IsFull n = (h : ℕ) × (n ≡ 2 ^ h)

-- The old root of a range: F's digest where the range has a power of two of leaves, else the branch of its
-- parts. It is the cut root for a target of no leaves, which each range misses. `laws::old_full` and
-- `old_parts` state the recursion.
abbrev pub old_over : (List ℕ → List ℕ) → (ℕ → Option (List ℕ)) → Range → Option (List ℕ)
old_over H F range = cut_over H (with_target F (leaves_from 0 0) (H [])) range

-- The old root at a length: that of all its leaves.
abbrev pub old_root : (List ℕ → List ℕ) → (ℕ → Option (List ℕ)) → ℕ → Option (List ℕ)
old_root H F m = old_over H F (leaves_from 0 m)
