-- What is read out of a registry's folder.
use Rattle.std.specs.Prelude.{◌≡◌, ℕ, ◌+◌, Bool, List, Option, Some}
use Rattle.std.specs.FinMap.{get}
use Rattle.warg_crypto.specs.Digests.{sha256}
use Rattle.warg_crypto.specs.EmptyTrees.{empty_root}
use Rattle.warg_crypto.specs.Tree.{leaf_digest}
use Rattle.warg_log.specs.Claims.{RootAndLength}
use Rattle.warg_map.specs.Bits.{key_bits}
use Rattle.warg_map.specs.Last.{last_under}
use Rattle.warg_map.specs.Peers.{Proves, ProvesAbsent}
use Rattle.warg_map.specs.ProofValue.{proof_value}
use Rattle.warg_map.specs.Sparse.{map_of, sparse_root}
use Rattle.warg_pages.specs.Prefixes.{version}
use Rattle.warg_folder.specs.Files.{Files}
use Rattle.warg_store.specs.Reading.{ServedIn, Reads, IsShown}
use Rattle.warg_registry.specs.declared.reader.KeyInRegistry.{KeyInRegistry}
use Rattle.warg_registry.specs.declared.reader.KeyInRegistry.TheVariants.{Held, Absent}
use Rattle.warg_registry.specs.Folder.{registry_of}
use Rattle.warg_registry.specs.Insertions.{entry_of}

-- A registry as a folder serves it: its log, and the map's root.
pub record RegistryRead (F : Type 0) : Type 0 where
  pub log : ServedIn F
  pub root : List ℕ

-- The reader has the registry of these insertions.
pub record ReadsRegistry {F : Type 0} (seen : F → Files) (origin : List ℕ) (insertions : List (List ℕ × List ℕ))
    (r : RegistryRead F) : Type 0 where
  pub reads : Reads seen (registry_of origin insertions) r.log
  pub is_root : r.root ≡ sparse_root sha256 256 (map_of sha256 insertions)

-- What is said of the insertions of each registry that the reader has.
abbrev pub OfRead : {F : Type 0} → (F → Files) → RegistryRead F → (List (List ℕ × List ℕ) → Type 0) → Type 0
OfRead seen r Said = (origin : List ℕ) (insertions : List (List ℕ × List ℕ)) → ReadsRegistry seen origin insertions r
    → Said insertions

-- The reader still has each registry that it had.
abbrev pub StillReads : {F : Type 0} → (F → Files) → RegistryRead F → RegistryRead F → Type 0
StillReads seen old new = (origin : List ℕ) (insertions : List (List ℕ × List ℕ))
    → ReadsRegistry seen origin insertions old → ReadsRegistry seen origin insertions new

-- The map's proof leads to a root: from the value's leaf digest, or, where nothing is there, from an empty leaf.
abbrev pub IsKeyShown : List ℕ → List ℕ → KeyInRegistry → Type 0
IsKeyShown root key (Held index value peers) =
    proof_value sha256 peers.items (leaf_digest sha256 value.items) (key_bits sha256 key) ≡ root
IsKeyShown root key (Absent peers) = proof_value sha256 peers.items (empty_root sha256 0) (key_bits sha256 key) ≡ root

-- The entry of a value's insertion is shown by its inclusion under the checkpoint.
abbrev pub IsLogged : RootAndLength → List ℕ → KeyInRegistry → Type 0
IsLogged checkpoint key (Held index value peers) = IsShown checkpoint index (entry_of (key, value.items))
IsLogged checkpoint key (Absent peers) = Unit {0}

-- The value is that of an entry under the key, of this leaf digest, and the index and the peers are these.
abbrev pub IsOfEntry : List ℕ → ℕ → List ℕ → List ℕ → List (Option (List ℕ)) → KeyInRegistry → Type 0
IsOfEntry key index leaf entry peers (Held at value others) = (at ≡ index) × (others.items ≡ peers)
    × (entry ≡ entry_of (key, value.items)) × (leaf_digest sha256 value.items ≡ leaf)
IsOfEntry key index leaf entry peers (Absent others) = ⊥

-- The last insertion under a key's digest, if there is one, is of this very key.
abbrev pub IsOwnKey : List (List ℕ × List ℕ) → List ℕ → Type 0
IsOwnKey insertions key =
    (e : List ℕ × List ℕ) → last_under sha256 (key_bits sha256 key) insertions ≡ Some e → e.0 ≡ key

-- The map of insertions holds a leaf digest under bits, by the insertion at an index, and these are the peers of its proof.
pub record IsHeldAt (insertions : List (List ℕ × List ℕ)) (bits : List Bool) (index : ℕ) (leaf : List ℕ)
    (peers : List (Option (List ℕ))) : Type 0 where
  pub place : index + 1 ≡ version sha256 insertions bits
  pub held : get (map_of sha256 insertions) bits ≡ Some leaf
  pub proves : Proves sha256 256 (map_of sha256 insertions) bits peers

-- What a registry of insertions has under a key: the value of the last insertion under the key's digest, with its index,
-- or nothing, each with the map's own proof.
abbrev pub IsKeyIn : List (List ℕ × List ℕ) → List ℕ → KeyInRegistry → Type 0
IsKeyIn insertions key (Held index value peers) = (index + 1 ≡ version sha256 insertions (key_bits sha256 key))
    × (last_under sha256 (key_bits sha256 key) insertions ≡ Some (key, value.items))
    × Proves sha256 256 (map_of sha256 insertions) (key_bits sha256 key) peers.items
IsKeyIn insertions key (Absent peers) =
    ProvesAbsent sha256 (map_of sha256 insertions) (key_bits sha256 key) peers.items
