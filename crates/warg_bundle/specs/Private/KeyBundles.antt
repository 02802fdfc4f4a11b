-- The bundle of the proof of a key.
use Rattle.std.specs.Prelude.{[], ◌∷◌}
use Rattle.warg_protobuf.specs.MapProofBundle.{MapBundle}
use Rattle.warg_map.specs.declared.map.key_proof.KeyProof.{KeyProof}
use Rattle.warg_map.specs.declared.map.key_proof.KeyProof.TheVariants.{Presence, Absence}

-- One proof, or one absence.
abbrev pub bundle_of_one : {D K V A : _} → KeyProof D K V A → MapBundle
bundle_of_one (Presence peers) = record { proofs = peers ∷ []; absences = [] }
bundle_of_one (Absence peers) = record { proofs = []; absences = peers ∷ [] }
