-- Where the two byte lists of a collision stand: in the tree over digests in a row, and in that over the leaves below them.
use Rattle.std.specs.Prelude.{◌≡◌, ℕ, ◌+◌, ◌-◌, ◌*◌, ◌/◌, ◌^◌, ◌<◌, min, List, ◌∷◌, ◌++◌, length, drop, Some, None}
use Rattle.std.specs.Option.{option_to_list}
use Rattle.warg_crypto.specs.Tree.{branch_input, where_both}
use Rattle.warg_log.specs.Ranges.{leaves_from, front_part, rest_part}
use Rattle.warg_log.specs.Cut.{Evaluation, cut_over}
use Rattle.warg_log.specs.Nodes.{height_of}
use Rattle.warg_log.specs.Tree.{front_of, root_over, leaves_below}
use Rattle.warg_tiles.specs.Tiles.{TileAt}
use Rattle.warg_tiles.specs.TileData.{Tiles, digests_below}
use Rattle.warg_tiles.specs.TileLog.{root_on}

-- The ranges of the recursion of RFC 6962, section 2.1, over so many digests: all of them, and of each range of more than
-- one its first ones, as many as the greatest power of two below its count, and the rest.
pub data IsPart (whole_count : ℕ) : ℕ → ℕ → Type 0 where
  whole : IsPart whole_count 0 whole_count
  front : (a n : ℕ) → IsPart whole_count a n → 1 < n → IsPart whole_count a (front_of n)
  rest : (a n : ℕ) → IsPart whole_count a n → 1 < n → IsPart whole_count (a + front_of n) (n - front_of n)

-- What the tree over digests hashes at n of them from a on.
abbrev pub range_input : (List ℕ → List ℕ) → List (List ℕ) → ℕ → ℕ → List ℕ
range_input H ds a n = branch_input (root_over H ds a (front_of n)) (root_over H ds (a + front_of n) (n - front_of n))

-- For digests in a row, each said to be the root over so many leaves, the last one over what is left of them: what the tree
-- over the digests hashes at one range (first), and what that over the leaves hashes at the same leaves (second).
pub record IsRowPlaced (H : List ℕ → List ℕ) (row : List (List ℕ)) (size : ℕ) (leaves : List (List ℕ)) (first second : List ℕ) : Type 0 where
  pub from : ℕ
  pub count : ℕ
  pub part : IsPart (length row) from count
  pub more : 1 < count
  pub by_row : first ≡ range_input H row from count
  pub by_leaves : second ≡ range_input H leaves (from * size) (min (count * size) (length leaves - from * size))

-- For a node by a tile's digests: at a range of those below the node, and of the leaves below it.
abbrev pub IsTilePlaced : (List ℕ → List ℕ) → List (List ℕ) → ℕ → List (List ℕ) → List ℕ → List ℕ → Type 0
IsTilePlaced H digests x ds = IsRowPlaced H (digests_below digests x) (2 ^ (8 * (height_of x / 8))) (leaves_below x ds)

-- For the root by partial tiles: at a range of a tile's digests and the root of what is behind them, which the tiles before
-- it give, and of the leaves from the tile's first one on.
pub record IsEdgePlaced (H : List ℕ → List ℕ) (tiles : Tiles) (ds : List (List ℕ)) (first second : List ℕ) : Type 0 where
  pub lower : Tiles
  pub tile : TileAt × List (List ℕ)
  pub upper : Tiles
  pub split : tiles ≡ lower ++ tile ∷ upper
  pub row : IsRowPlaced H (tile.1 ++ option_to_list (root_on H None lower)) (2 ^ (8 * tile.0.level)) (drop (256 * tile.0.number * 2 ^ (8 * tile.0.level)) ds) first second

-- For an evaluation by digests that are held: its input at a range of the recursion (first), and that of the tree over the
-- leaves at the same one (second).
pub record IsEvaluationPlaced (H : List ℕ → List ℕ) (e : Evaluation) (ds : List (List ℕ)) (first second : List ℕ) : Type 0 where
  pub from : ℕ
  pub count : ℕ
  pub part : IsPart (length ds) from count
  pub more : 1 < count
  pub by_data : where_both branch_input (cut_over H e (front_part (leaves_from from count))) (cut_over H e (rest_part (leaves_from from count))) ≡ Some first
  pub by_leaves : second ≡ range_input H ds from count
