-- What is removed: by pruning, partial tiles and bundles whose full one is there; by their names, pages.
use Rattle.std.specs.Prelude.{◌≡◌, ◌≢◌, ◌⊎◌, ℕ, zero, suc, ◌<◌, true, List, None, IsSome, All, string_bytes}
use Rattle.std.specs.List.{Contains}
use Rattle.std.specs.declared.alloc.Global.{Global}
use Rattle.std.specs.declared.string.String.{String}
use Rattle.warg_tiles.specs.Tiles.{TileAt, IsTile}
use Rattle.warg_tiles.specs.TilePaths.{tile_path, entries_path}
use Rattle.warg_tiles.specs.Between.{IsTileOf}
use Rattle.warg_folder.specs.Files.{File, Files, without}
use Rattle.warg_folder.specs.Names.{is_served, is_page, page_name}
use Rattle.warg_store.specs.Log.{LogOf}

-- The full tile in a tile's place.
abbrev pub full_of : TileAt → TileAt
full_of t = record t { width = 256 }

-- The name is the tile's, or that of the bundle below it, and the other one that of the full one in its place.
abbrev pub HasFull : List ℕ → TileAt → List ℕ → Type 0
HasFull n t full = ((tile_path t ≡ n) × (tile_path (full_of t) ≡ full)) ⊎ ((t.level ≡ 0) × (entries_path t ≡ n) × (entries_path (full_of t) ≡ full))

-- The name is spare at a kept length and a served one: a partial tile's or bundle's that the served length hasn't, while the
-- kept one has the full one, and its file is there.
pub record IsSpare (kept served : ℕ) (files : Files) (n : List ℕ) : Type 0 where
  pub tile : TileAt
  pub full : List ℕ
  pub is : IsTile tile
  pub paths : HasFull n tile full
  pub partial : tile.width < 256
  pub exists : IsTileOf kept (full_of tile)
  pub unserved : IsTileOf served tile → ⊥
  pub there : IsSome (files full)

-- Each served file is as it was, or was spare and is gone.
abbrev pub IsPruned : ℕ → ℕ → Files → Files → Type 0
IsPruned kept served old new = (n : List ℕ) → is_served n ≡ true → (new n ≡ old n) ⊎ ((new n ≡ None) × IsSpare kept served old n)

-- So many files were removed, one after the other, each of which was there.
abbrev pub AreGone : ℕ → Files → Files → Type 0
AreGone zero old new = new ≡ old
AreGone (suc n) old new = (name : List ℕ) × (before : Files) × AreGone n old before × IsSome (before name) × (new ≡ without name before)

-- None of the names is that of one of the pages.
abbrev pub IsNoneOf : List (List ℕ) → List File → Type 0
IsNoneOf names pages = (n : List ℕ) → Contains names n → (f : File) → Contains pages f → page_name f.0 ≢ n

-- Each of the names is a page's, and has a file.
abbrev pub ArePagesIn : Files → List (String Global) → Type 0
ArePagesIn files names = All (λ (name : String Global). IsSome (files (string_bytes name)) × (is_page (string_bytes name) ≡ true)) names

-- None of the names is that of a page which is served, kept or to be kept.
pub record ArePagesNotOf (names : List (List ℕ)) (served old next : LogOf) : Type 0 where
  pub not_served : IsNoneOf names served.pages
  pub not_kept : IsNoneOf names old.pages
  pub not_next : IsNoneOf names next.pages

-- Each file is as it was, or is one of these names' below `map/` and is gone.
abbrev pub IsWithoutPages : List (List ℕ) → Files → Files → Type 0
IsWithoutPages names old new = (n : List ℕ) → (new n ≡ old n) ⊎ ((new n ≡ None) × Contains names n × (is_page n ≡ true))
