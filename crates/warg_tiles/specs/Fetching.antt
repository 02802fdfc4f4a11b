-- Which tiles to fetch for a proof.
use Rattle.std.specs.Prelude.{◌≡◌, ◌≢◌, ℕ, Bool, true, List, ◌++◌, AllPairs}
use Rattle.std.specs.List.{AllByRecursion, list_any}
use Rattle.warg_tiles.specs.Tiles.{TileAt}
use Rattle.warg_tiles.specs.TileData.{has_below}
use Rattle.warg_tiles.specs.Between.{IsTileOf}

-- One of the tiles has all digests of its level below a node.
abbrev pub gives : List TileAt → ℕ → Bool
gives tiles x = list_any (λ t. has_below t x) tiles

-- A tile has all digests of its level below one of some nodes.
abbrev pub serves : List ℕ → TileAt → Bool
serves nodes t = list_any (has_below t) nodes

-- The tiles are those of a length, each once.
pub record AreOf (n : ℕ) (tiles : List TileAt) : Type 0 where
  pub of_length : AllByRecursion (IsTileOf n) tiles
  pub once : AllPairs (λ (s t : TileAt). s ≢ t) tiles

-- The tiles are those of a length, each once: they give the digests of some nodes, and each is for one of these.
pub record AreFor (n : ℕ) (tiles : List TileAt) (nodes : List ℕ) : Type 0 where
  pub tiles_of : AreOf n tiles
  pub give : AllByRecursion (λ x. gives tiles x ≡ true) nodes
  pub serve : AllByRecursion (λ t. serves nodes t ≡ true) tiles

-- To tiles of a length those of some nodes were added.
pub record IsAdded (n : ℕ) (old new : List TileAt) (nodes : List ℕ) : Type 0 where
  pub tiles_of : AreOf n old → AreOf n new
  pub serve : (before : List ℕ) → AllByRecursion (λ t. serves before t ≡ true) old → AllByRecursion (λ t. serves (before ++ nodes) t ≡ true) new
  pub keep : (x : ℕ) → gives old x ≡ true → gives new x ≡ true
  pub give : AllByRecursion (λ x. gives new x ≡ true) nodes
