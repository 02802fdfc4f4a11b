-- Verdicts on one insertion into a map, for whoever holds the map's root: the same peers lead from the old value to
-- the old root, and from the new value to the new one.
use Rattle.std.specs.Prelude.{◌≡◌, ℕ, Bool, ◌&&◌, List, Some, Result, Ok, slice_get}
use Rattle.warg_crypto.specs.EmptyTrees.{empty_root}
use Rattle.warg_protobuf.specs.MapProofBundle.{MapBundle}
use Rattle.warg_map.specs.Bits.{key_bits}
use Rattle.warg_crypto.specs.Tree.{leaf_digest}
use Rattle.warg_map.specs.ProofValue.{proof_value}
use Rattle.warg_map.specs.Messages.{Peers}
use Rattle.warg_bundle.specs.MapBundles.{map_bundle_of}
use Rattle.warg_check.specs.declared.verdict.CheckError.{CheckError}
use Rattle.warg_check.specs.Verdicts.{verdict_at, leads, HasHashes}

-- The peers lead under the key from the old leaf digest to the old root, and from the new one to the new root.
abbrev pub leads_both : (List ℕ → List ℕ) → List ℕ → List ℕ → List ℕ → List ℕ → List ℕ → Peers → Bool
leads_both H key old_leaf new_leaf old_root new_root peers = leads H old_leaf key old_root peers && leads H new_leaf key new_root peers

-- The verdict on the proof at a place of a map bundle's bytes, as an update: from the leaf digests of both values.
abbrev pub update_verdict : (List ℕ → List ℕ) → List ℕ → ℕ → List ℕ → List ℕ → List ℕ → List ℕ → List ℕ → Result Bool CheckError
update_verdict H bytes at key old_value new_value old_root new_root =
    verdict_at (λ (b : MapBundle). b.proofs) (λ b. leads_both H key (leaf_digest H old_value) (leaf_digest H new_value) old_root new_root) at (map_bundle_of bytes)

-- The verdict on the absence at a place of a map bundle's bytes, as an insertion: from an empty leaf, and from the
-- value's leaf digest.
abbrev pub insertion_verdict : (List ℕ → List ℕ) → List ℕ → ℕ → List ℕ → List ℕ → List ℕ → List ℕ → Result Bool CheckError
insertion_verdict H bytes at key value old_root new_root =
    verdict_at (λ (b : MapBundle). b.absences) (λ b. leads_both H key (empty_root H 0) (leaf_digest H value) old_root new_root) at (map_bundle_of bytes)

-- The bytes are a map bundle with a proof at this place, of peers of 32 bytes, that lead from both values under the key to
-- the two roots.
pub record IsUpdateShown (H : List ℕ → List ℕ) (bytes : List ℕ) (at : ℕ) (key old_value new_value old_root new_root : List ℕ) : Type 0 where
  pub bundle : MapBundle
  pub spelled : map_bundle_of bytes ≡ Ok bundle
  pub peers : Peers
  pub stands : slice_get bundle.proofs at ≡ Some peers
  pub hashes : HasHashes peers
  pub old_is : proof_value H peers (leaf_digest H old_value) (key_bits H key) ≡ old_root
  pub new_is : proof_value H peers (leaf_digest H new_value) (key_bits H key) ≡ new_root

-- The bytes are a map bundle with an absence at this place, of peers of 32 bytes, that lead under the key from an empty
-- leaf to the old root, and from the value to the new one.
pub record IsInsertionShown (H : List ℕ → List ℕ) (bytes : List ℕ) (at : ℕ) (key value old_root new_root : List ℕ) : Type 0 where
  pub bundle : MapBundle
  pub spelled : map_bundle_of bytes ≡ Ok bundle
  pub peers : Peers
  pub stands : slice_get bundle.absences at ≡ Some peers
  pub hashes : HasHashes peers
  pub old_is : proof_value H peers (empty_root H 0) (key_bits H key) ≡ old_root
  pub new_is : proof_value H peers (leaf_digest H value) (key_bits H key) ≡ new_root
