-- Files that are staged one after the other, and those of a log that grows.
use Rattle.std.specs.Prelude.{ℕ, ◌∷◌, List, [], nat_le, if◌then◌else◌}
use Rattle.std.specs.List.{flat_map}
use Rattle.warg_tiles.specs.Tiles.{tile_end}
use Rattle.warg_tiles.specs.TilePaths.{tile_path}
use Rattle.warg_tiles.specs.TileData.{Tiles}
use Rattle.warg_folder.specs.Files.{File, Files, put}
use Rattle.warg_folder.specs.Names.{staged}

-- With all of these staged, a later one over an earlier one.
abbrev pub staged_all : List File → Files → Files
staged_all [] s = s
staged_all (f ∷ fs) s = staged_all fs (put (staged f.0, f.1) s)

-- The files of those tiles that a log of an older length hasn't, each as its digests one after the other.
abbrev pub new_files : ℕ → Tiles → List File
new_files older [] = []
new_files older (t ∷ ts) = if nat_le (tile_end t.0) older then new_files older ts else (tile_path t.0, flat_map (λ digest. digest) t.1) ∷ new_files older ts
