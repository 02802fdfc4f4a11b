-- What is proved of a key by pages.
use Rattle.std.specs.Prelude.{◌≡◌, ℕ, ◌+◌, Bool, List, length, Option, Some}
use Rattle.std.specs.FinMap.{get}
use Rattle.warg_crypto.specs.EmptyTrees.{empty_root}
use Rattle.warg_map.specs.Bits.{key_bits}
use Rattle.warg_map.specs.Sparse.{sparse_root, map_of}
use Rattle.warg_map.specs.ProofValue.{proof_value}
use Rattle.warg_map.specs.Peers.{Proves, ProvesAbsent}
use Rattle.warg_pages.specs.declared.prove.KeyInPages.{KeyInPages}
use Rattle.warg_pages.specs.declared.prove.KeyInPages.TheVariants.{Held, Absent}
use Rattle.warg_pages.specs.Prefixes.{version}
use Rattle.warg_pages.specs.OwnPages.{AreOwnPages}

-- A source has the pages of these insertions: as many as the version says, whose map has this root.
pub record IsOwnSource (H : List ℕ → List ℕ) (bytes_at : List ℕ → ℕ → Option (List ℕ)) (root : List ℕ) (count : ℕ) (insertions : List (List ℕ × List ℕ)) : Type 0 where
  pub pages : AreOwnPages H bytes_at insertions
  pub all : length insertions ≡ count
  pub is_root : root ≡ sparse_root H 256 (map_of H insertions)

-- The proof leads from the leaf digest that is held, or from an empty leaf, to a root.
abbrev pub LeadsTo : {D A : _} → (List ℕ → List ℕ) → List Bool → List ℕ → KeyInPages D A → Type 0
LeadsTo H bits root (Held index leaf peers) = proof_value H peers.items leaf bits ≡ root
LeadsTo H bits root (Absent peers) = proof_value H peers.items (empty_root H 0) bits ≡ root

-- The proof is that of the map of these insertions, of what it holds under the key, by the last insertion under the key's digest, or that it holds nothing there.
abbrev pub IsProved : {D A : _} → (List ℕ → List ℕ) → List (List ℕ × List ℕ) → List ℕ → KeyInPages D A → Type 0
IsProved H insertions key (Held index leaf peers) =
    (index + 1 ≡ version H insertions (key_bits H key)) × (get (map_of H insertions) (key_bits H key) ≡ Some leaf) × Proves H 256 (map_of H insertions) (key_bits H key) peers.items
IsProved H insertions key (Absent peers) = ProvesAbsent H (map_of H insertions) (key_bits H key) peers.items
