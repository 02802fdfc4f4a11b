-- Ranges of leaves, and how the tree's recursion splits them.
use Rattle.std.specs.Prelude.{◌≡◌, ℕ, ◌+◌, ◌-◌, ◌*◌, ◌^◌, ◌≤◌}
use Rattle.warg_log.specs.Nodes.{height_of, start_of}
use Rattle.warg_log.specs.Tree.{front_of}

-- Leaves in a row, by the first one, counted from 0, and their number.
pub record Range : Type 0 where
  pub start : ℕ
  pub count : ℕ

-- The n leaves from a on.
abbrev pub leaves_from : ℕ → ℕ → Range
leaves_from a n = record { start = a; count = n }

-- The leaves below a node.
abbrev pub range_of : ℕ → Range
range_of t = leaves_from (start_of t) (2 ^ height_of t)

-- The first part of a range of more than one leaf (RFC 6962, section 2.1): as many leaves as the greatest power of
-- two below its count.
abbrev pub front_part : Range → Range
front_part range = leaves_from range.start (front_of range.count)

-- The other part: the rest of the leaves.
abbrev pub rest_part : Range → Range
rest_part range = leaves_from (range.start + front_of range.count) (range.count - front_of range.count)

-- The range is one that the recursion over some log could meet: at most a power of two of leaves, from a
-- multiple of it on.
pub record IsAligned (a n : ℕ) : Type 0 where
  pub height : ℕ
  pub place : ℕ
  pub start : a ≡ place * 2 ^ height
  pub most : n ≤ 2 ^ height
