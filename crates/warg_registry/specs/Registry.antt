-- What a registry says: the log of its insertions' entries, and the map that they make, under one checkpoint.
use Rattle.std.specs.Prelude.{ℕ, List, [], ◌∷◌, ◌++◌, length, codes}
use Rattle.base64.specs.Engines.{standard}
use Rattle.base64.specs.GeneralPurpose.{encode_of}
use Rattle.warg_log.specs.Tree.{leaves_of, root_of}
use Rattle.warg_tiles.specs.CheckpointText.{Said}
use Rattle.warg_map.specs.Sparse.{map_of, sparse_root}
use Rattle.warg_registry.specs.Insertions.{entries_of}

-- The further line of a checkpoint's text that names the map's root, in base64 with padding (RFC 4648, section 4).
abbrev pub line_of : List ℕ → List ℕ
line_of root = codes "map " ++ encode_of standard root

-- What the checkpoint's text of a registry of these insertions says, under its origin.
abbrev pub said_of : (List ℕ → List ℕ) → List ℕ → List (List ℕ × List ℕ) → Said
said_of H origin insertions = record {
  origin = origin;
  length = length insertions;
  root = root_of H (leaves_of H (entries_of insertions));
  extensions = line_of (sparse_root H 256 (map_of H insertions)) ∷ [];
}
