-- What is read out of a log's folder.
use Rattle.std.specs.Prelude.{◌≡◌, ◌⊎◌, ◌*◌, ℕ, List, take, drop, Option, Some}
use Rattle.warg_crypto.specs.Digests.{sha256}
use Rattle.warg_crypto.specs.Tree.{leaf_digest}
use Rattle.warg_log.specs.Claims.{RootAndLength}
use Rattle.warg_log.specs.Cut.{old_over}
use Rattle.warg_log.specs.Tree.{leaves_of, own_digest}
use Rattle.warg_paths.specs.Paths.{inclusion_of, inclusion_root, consistency_of, consistency_roots}
use Rattle.warg_tiles.specs.CheckpointText.{Said}
use Rattle.warg_folder.specs.Files.{Files}
use Rattle.warg_store.specs.Log.{LogOf, CanBeKept, said_of, HasFiles}

-- A log as a folder serves it: the folder, and what its checkpoint's text says.
pub record ServedIn (F : Type 0) : Type 0 where
  pub folder : F
  pub text : Said

-- The checkpoint that a text says.
abbrev pub checkpoint_said : Said → RootAndLength
checkpoint_said said = record { root = said.root; length = said.length }

-- The reader has the log: its checkpoint's text says the log's, and its folder has the log's files.
pub record Reads {F : Type 0} (seen : F → Files) (log : LogOf) (reader : ServedIn F) : Type 0 where
  pub can : CanBeKept log
  pub text : reader.text ≡ said_of log
  pub files : HasFiles log (seen reader.folder)

-- The files are a log's, and the checkpoint says so.
pub record AreOfLog (log : LogOf) (checkpoint : RootAndLength) (files : Files) : Type 0 where
  pub can : CanBeKept log
  pub said : checkpoint ≡ checkpoint_said (said_of log)
  pub holds : HasFiles log files

-- The entries of a bundle, from 0: 256 of them, or those that are left in the last one.
abbrev pub bundle_in : LogOf → ℕ → List (List ℕ)
bundle_in log bundle = take 256 (drop (256 * bundle) log.entries)

-- The inclusion path of the entry at an index in the log of the first `length` entries (RFC 6962, section 2.1.1).
abbrev pub inclusion_in : LogOf → ℕ → ℕ → Option (List (List ℕ))
inclusion_in log index length = inclusion_of (old_over sha256 (own_digest sha256 (leaves_of sha256 log.entries))) index length

-- The consistency path from the first `old` entries to the first `new` (RFC 6962, section 2.1.2).
abbrev pub consistency_in : LogOf → ℕ → ℕ → Option (List (List ℕ))
consistency_in log old new = consistency_of (old_over sha256 (own_digest sha256 (leaves_of sha256 log.entries))) old new

-- The root of so many entries is the checkpoint's, or a consistency path leads from it to the checkpoint's.
abbrev pub LeadsTo : RootAndLength → ℕ → List ℕ → Type 0
LeadsTo checkpoint length root =
    ((length ≡ checkpoint.length) × (root ≡ checkpoint.root))
    ⊎ ((path : List (List ℕ)) × (consistency_roots sha256 length checkpoint.length root path ≡ Some (root, checkpoint.root)))

-- An inclusion path leads from the entry's leaf digest to the checkpoint's root.
abbrev pub IsShown : RootAndLength → ℕ → List ℕ → Type 0
IsShown checkpoint index entry = (path : List (List ℕ)) × (inclusion_root sha256 index checkpoint.length (leaf_digest sha256 entry) path ≡ Some checkpoint.root)

-- The inclusion path leads from a leaf digest to a root of so many entries, and this one to the checkpoint's.
abbrev pub IncludesBy : RootAndLength → ℕ → ℕ → List (List ℕ) → Type 0
IncludesBy checkpoint index length path = (leaf root : List ℕ) × (inclusion_root sha256 index length leaf path ≡ Some root) × LeadsTo checkpoint length root

-- The consistency path leads from a root of the old length to itself and to one of the new length, and this one to the
-- checkpoint's.
abbrev pub GrowsBy : RootAndLength → ℕ → ℕ → List (List ℕ) → Type 0
GrowsBy checkpoint old new path = (before after : List ℕ) × (consistency_roots sha256 old new before path ≡ Some (before, after)) × LeadsTo checkpoint new after
