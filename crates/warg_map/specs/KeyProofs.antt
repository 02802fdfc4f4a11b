-- What a map proves of a key.
use Rattle.std.specs.Prelude.{◌≡◌, ℕ, Bool, true, false, List}
use Rattle.std.specs.FinMap.{contains_key}
use Rattle.warg_map.specs.declared.map.key_proof.KeyProof.{KeyProof}
use Rattle.warg_map.specs.declared.map.key_proof.KeyProof.TheVariants.{Presence, Absence}
use Rattle.warg_map.specs.Sparse.{SparseMap}
use Rattle.warg_map.specs.Peers.{Proves, ProvesAbsent}

-- The proof is that of the bits, if they are held, and else that of their absence.
abbrev pub ProvesKey : {D K V A : _} → (List ℕ → List ℕ) → SparseMap → List Bool → KeyProof D K V A → Type 0
ProvesKey H m bits (Presence peers) = (contains_key m bits ≡ true) × Proves H 256 m bits peers
ProvesKey H m bits (Absence peers) = (contains_key m bits ≡ false) × ProvesAbsent H m bits peers
