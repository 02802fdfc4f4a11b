-- The proof of a key as a bundle, and as bytes.
use Rattle.std.specs.Prelude.{◌≡◌, ℕ, Bool, true, false, List, [], ◌∷◌, Ok}
use Rattle.std.specs.FinMap.{contains_key}
use Rattle.warg_protobuf.specs.MapProofBundle.{MapBundle}
use Rattle.warg_map.specs.Sparse.{SparseMap}
use Rattle.warg_map.specs.Peers.{Proves, ProvesAbsent}
use Rattle.warg_map.specs.Messages.{Peers}
use Rattle.warg_bundle.specs.MapBundles.{map_bundle_of}

-- The bundle has one proof: that of the bits, if they are held, and else that of their absence.
pub record HasKey (H : List ℕ → List ℕ) (m : SparseMap) (bits : List Bool) (bundle : MapBundle) : Type 0 where
  pub peers : Peers
  pub held : contains_key m bits ≡ true → (bundle ≡ record { proofs = peers ∷ []; absences = [] }) × Proves H 256 m bits peers
  pub absent : contains_key m bits ≡ false → (bundle ≡ record { proofs = []; absences = peers ∷ [] }) × ProvesAbsent H m bits peers

-- The bytes spell such a bundle.
pub record SpellsKey (H : List ℕ → List ℕ) (m : SparseMap) (bits : List Bool) (bytes : List ℕ) : Type 0 where
  pub bundle : MapBundle
  pub spells : map_bundle_of bytes ≡ Ok bundle
  pub proves : HasKey H m bits bundle
