-- Tiles of a log's tree (C2SP tlog-tiles): digests of one height in a row, up to 256 of them.
use Rattle.std.specs.Prelude.{ℕ, ◌+◌, ◌*◌, ◌/◌, ◌%◌, ◌^◌, ◌<◌, ◌≤◌}
use Rattle.warg_log.specs.Nodes.{height_of, start_of, number_of}

-- A tile's level, its number among the tiles of its level, and how many digests it has.
pub record TileAt : Type 0 where
  pub level : ℕ
  pub number : ℕ
  pub width : ℕ

-- Which of these are tiles: the level is at most 63, the width between 1 and 256, and the number below 2 ^ 64.
pub record IsTile (t : TileAt) : Type 0 where
  pub level : t.level ≤ 63
  pub number : t.number < 2 ^ 64
  pub some : 0 < t.width
  pub most : t.width ≤ 256

-- The node of a tile's i-th digest: that of height 8 L whose leaves begin at (256 N + i) * 2 ^ (8 L), for the level L and
-- the number N.
abbrev pub node_in : TileAt → ℕ → ℕ
node_in t i = number_of (8 * t.level) (256 * t.number + i)

-- The leaf behind the last one below a tile.
abbrev pub tile_end : TileAt → ℕ
tile_end t = (256 * t.number + t.width) * 2 ^ (8 * t.level)

-- How many nodes of the height of a node's tile stand before the node's leaves.
abbrev pub place_in_level : ℕ → ℕ
place_in_level x = start_of x / 2 ^ (8 * (height_of x / 8))

-- The least tile that a node's digest can be made from: its level is the greatest that isn't above the node, and it ends
-- where the node's leaves end.
abbrev pub tile_over : ℕ → TileAt
tile_over x = record {
  level = height_of x / 8;
  number = place_in_level x / 256;
  width = place_in_level x % 256 + 2 ^ (height_of x % 8);
}
