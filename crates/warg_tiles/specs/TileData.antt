-- Digests of tiles, and what they come to.
use Rattle.std.specs.Prelude.{◌≡◌, ℕ, ◌+◌, ◌*◌, ◌%◌, ◌^◌, ◌<◌, ◌==◌, ◌&&◌, nat_le, if◌then◌else◌, Bool, List, [], ◌∷◌, length, map, take, drop, Option, Some, None, slice_index_or}
use Rattle.std.specs.List.{list_any, range_with_len}
use Rattle.std.specs.Option.{option_or}
use Rattle.warg_log.specs.Nodes.{height_of}
use Rattle.warg_log.specs.Tree.{root_of, own_digest}
use Rattle.warg_tiles.specs.Tiles.{TileAt, node_in, place_in_level, tile_over}

-- The digests are those that F has for a tile's nodes.
pub record IsTileBy (F : ℕ → Option (List ℕ)) (t : TileAt) (digests : List (List ℕ)) : Type 0 where
  pub count : length digests ≡ t.width
  pub digest : (i : ℕ) → i < t.width → F (node_in t i) ≡ Some (slice_index_or digests i [])

-- A digest of the tile isn't held.
abbrev pub LacksOf : (ℕ → Option (List ℕ)) → TileAt → Type 0
LacksOf F t = (i : ℕ) × (i < t.width) × (F (node_in t i) ≡ None)

-- The digests that bytes are, in pieces of 32 one after the other, so many of them.
abbrev pub digests_in : ℕ → List ℕ → List (List ℕ)
digests_in count bytes = map (λ i. take 32 (drop (32 * i) bytes)) (range_with_len 0 count)

-- Tiles with their digests.
abbrev pub Tiles : Type 0
Tiles = List (TileAt × List (List ℕ))

-- The tile has all digests of another one: it has its level and its number, and is at least as wide.
abbrev pub covers : TileAt → TileAt → Bool
covers t other = t.level == other.level && (t.number == other.number && nat_le other.width t.width)

-- One of the tiles has all digests of another one.
abbrev pub covered_by : Tiles → TileAt → Bool
covered_by tiles other = list_any (λ (t : TileAt × List (List ℕ)). covers t.0 other) tiles

-- The tile has all digests of its level below a node.
abbrev pub has_below : TileAt → ℕ → Bool
has_below t x = covers t (tile_over x)

-- The digests of a node's tile that are below the node.
abbrev pub digests_below : List (List ℕ) → ℕ → List (List ℕ)
digests_below digests x = take (2 ^ (height_of x % 8)) (drop (place_in_level x % 256) digests)

-- The root over them.
abbrev pub root_below : (List ℕ → List ℕ) → List (List ℕ) → ℕ → List ℕ
root_below H digests x = root_of H (digests_below digests x)

-- The digests of a tile that are below a node are a log's own.
abbrev pub AreOwnBelow : (List ℕ → List ℕ) → List (List ℕ) → TileAt → List (List ℕ) → ℕ → Type 0
AreOwnBelow H ds t digests x =
    (i : ℕ) → i < 2 ^ (height_of x % 8) → own_digest H ds (node_in t (place_in_level x % 256 + i)) ≡ Some (slice_index_or digests (place_in_level x % 256 + i) [])

-- The digest of a node by one tile, where it has all digests of its level below the node.
abbrev pub digest_of : (List ℕ → List ℕ) → TileAt × List (List ℕ) → ℕ → Option (List ℕ)
digest_of H t x = if has_below t.0 x then Some (root_below H t.1 x) else None

-- The digest of a node by the first of some tiles that gives one.
abbrev pub digest_by : (List ℕ → List ℕ) → Tiles → ℕ → Option (List ℕ)
digest_by H [] x = None
digest_by H (t ∷ ts) x = option_or (digest_of H t x) (digest_by H ts x)
