-- Tiles that were read.
use Rattle.std.specs.Prelude.{◌≡◌, ℕ, true, List, map}
use Rattle.std.specs.List.{AllByRecursion}
use Rattle.warg_crypto.specs.Digests.{sha256}
use Rattle.warg_log.specs.Tree.{leaves_of, own_digest}
use Rattle.warg_tiles.specs.Tiles.{TileAt}
use Rattle.warg_tiles.specs.Fetching.{gives}
use Rattle.warg_tiles.specs.TileData.{Tiles, IsTileBy}
use Rattle.warg_store.specs.Log.{LogOf}

-- The tiles have the log's digests.
abbrev pub AreOwn : LogOf → Tiles → Type 0
AreOwn log tiles = AllByRecursion (λ t. IsTileBy (own_digest sha256 (leaves_of sha256 log.entries)) t.0 t.1) tiles

-- The new tiles give the digests of each node of which the old ones or some more give them.
pub record GivesMore (old : Tiles) (more : List TileAt) (new : Tiles) : Type 0 where
  pub keep : (x : ℕ) → gives (map (λ t. t.0) old) x ≡ true → gives (map (λ t. t.0) new) x ≡ true
  pub add : (x : ℕ) → gives more x ≡ true → gives (map (λ t. t.0) new) x ≡ true
