-- Verdicts on the proofs in the bytes of a log bundle or a map bundle.
use Rattle.std.specs.Prelude.{◌≡◌, ℕ, Bool, false, ◌&&◌, List, length, Option, Some, None, Result, Ok, Err, slice_get, slice_index_or}
use Rattle.warg_log.specs.declared.node.Node.{Node}
use Rattle.warg_protobuf.specs.declared.value_error.DecodeError.{DecodeError}
use Rattle.warg_protobuf.specs.declared.value_error.DecodeError.TheVariants as decoding
use Rattle.warg_log.specs.declared.consistency.ConsistencyProofError.{ConsistencyProofError}
use Rattle.warg_log.specs.declared.proof.InclusionProofError.{InclusionProofError}
use Rattle.warg_log.specs.Inclusion.{inclusion}
use Rattle.warg_log.specs.Consistency.{consistency}
use Rattle.warg_log.specs.Sparse.{held_digest}
use Rattle.warg_bundle.specs.LogBundles.{Bundle, bundle_of}
use Rattle.warg_crypto.specs.EmptyTrees.{empty_root}
use Rattle.warg_protobuf.specs.MapProofBundle.{MapBundle}
use Rattle.warg_map.specs.Bits.{key_bits}
use Rattle.warg_crypto.specs.Tree.{leaf_digest}
use Rattle.warg_crypto.specs.Bytes.{same_bytes}
use Rattle.warg_map.specs.ProofValue.{proof_value}
use Rattle.warg_map.specs.Messages.{Peers}
use Rattle.warg_bundle.specs.MapBundles.{map_bundle_of}
use Rattle.warg_check.specs.declared.verdict.CheckError.{CheckError}
use Rattle.warg_check.specs.declared.verdict.CheckError.TheVariants as fault

-- A fault of bytes, or out of memory, as what a check answers.
abbrev pub check_fault : DecodeError → CheckError
check_fault decoding.Memory = fault.Memory
check_fault e = fault.Decode e

-- The verdict on a proof, if there is one: whether it holds.
abbrev pub judged : {P : Type 0} → (P → Bool) → Option P → Result Bool CheckError
judged holds None = Err fault.NoSuchProof
judged holds (Some proof) = Ok (holds proof)

-- The verdict on the proof at a place of a bundle, in what bytes were read as.
abbrev pub verdict_at : {B P : Type 0} → (B → List P) → (B → P → Bool) → ℕ → Result B DecodeError → Result Bool CheckError
verdict_at proofs holds at (Ok bundle) = judged (holds bundle) (slice_get (proofs bundle) at)
verdict_at proofs holds at (Err e) = Err (fault.Decode e)

-- An evaluation leads to this root.
abbrev pub is_root : List ℕ → Result (List ℕ) InclusionProofError → Bool
is_root root (Ok r) = same_bytes r root
is_root root (Err e) = false

-- The inclusion proof of a node evaluates, over the bundle's digests and with the value as its leaf, to this root.
abbrev pub includes : (List ℕ → List ℕ) → List ℕ → List ℕ → Bundle → Node → Bool
includes H value root b node = is_root root (inclusion H (held_digest b.hashes) (record { leaf = node; log_length = b.log_length }) (leaf_digest H value))

-- The verdict on the inclusion proof at a place of a log bundle's bytes.
abbrev pub inclusion_verdict : (List ℕ → List ℕ) → List ℕ → ℕ → List ℕ → List ℕ → Result Bool CheckError
inclusion_verdict H bytes at value root = verdict_at (λ (b : Bundle). b.included_nodes) (includes H value root) at (bundle_of bytes)

-- The two roots are there, and are these.
abbrev pub are_roots : List ℕ → List ℕ → Result (List ℕ × List ℕ) ConsistencyProofError → Bool
are_roots old new (Ok roots) = same_bytes roots.0 old && same_bytes roots.1 new
are_roots old new (Err e) = false

-- The consistency proof from an old length evaluates, over the bundle's digests, to these two roots.
abbrev pub extends : (List ℕ → List ℕ) → List ℕ → List ℕ → Bundle → ℕ → Bool
extends H old new b m = are_roots old new (consistency H (held_digest b.hashes) m b.log_length)

-- The verdict on the consistency proof at a place of a log bundle's bytes.
abbrev pub consistency_verdict : (List ℕ → List ℕ) → List ℕ → ℕ → List ℕ → List ℕ → Result Bool CheckError
consistency_verdict H bytes at old new = verdict_at (λ (b : Bundle). b.consistent_lengths) (extends H old new) at (bundle_of bytes)

-- The peers lead from this leaf digest under the key to this root.
abbrev pub leads : (List ℕ → List ℕ) → List ℕ → List ℕ → List ℕ → Peers → Bool
leads H leaf key root peers = same_bytes (proof_value H peers leaf (key_bits H key)) root

-- The verdict on the proof at a place of a map bundle's bytes: from the value's leaf digest.
abbrev pub key_verdict : (List ℕ → List ℕ) → List ℕ → ℕ → List ℕ → List ℕ → List ℕ → Result Bool CheckError
key_verdict H bytes at key value root = verdict_at (λ (b : MapBundle). b.proofs) (λ b. leads H (leaf_digest H value) key root) at (map_bundle_of bytes)

-- The verdict on the absence at a place of a map bundle's bytes: from an empty leaf.
abbrev pub absent_verdict : (List ℕ → List ℕ) → List ℕ → ℕ → List ℕ → List ℕ → Result Bool CheckError
absent_verdict H bytes at key root = verdict_at (λ (b : MapBundle). b.absences) (λ b. leads H (empty_root H 0) key root) at (map_bundle_of bytes)

-- Every peer that is there has 32 bytes.
abbrev pub HasHashes : Peers → Type 0
HasHashes peers = (place : ℕ) (digest : List ℕ) → slice_index_or peers place None ≡ Some digest → length digest ≡ 32

-- The bytes are a map bundle with a proof at this place, of peers of 32 bytes, that lead from the value under the key to
-- this root.
pub record IsKeyShown (H : List ℕ → List ℕ) (bytes : List ℕ) (at : ℕ) (key value root : List ℕ) : Type 0 where
  pub bundle : MapBundle
  pub spelled : map_bundle_of bytes ≡ Ok bundle
  pub peers : Peers
  pub stands : slice_get bundle.proofs at ≡ Some peers
  pub hashes : HasHashes peers
  pub is : proof_value H peers (leaf_digest H value) (key_bits H key) ≡ root

-- The bytes are a map bundle with an absence at this place, of peers of 32 bytes, that lead from an empty leaf under the
-- key to this root.
pub record IsAbsenceShown (H : List ℕ → List ℕ) (bytes : List ℕ) (at : ℕ) (key root : List ℕ) : Type 0 where
  pub bundle : MapBundle
  pub spelled : map_bundle_of bytes ≡ Ok bundle
  pub peers : Peers
  pub stands : slice_get bundle.absences at ≡ Some peers
  pub hashes : HasHashes peers
  pub is : proof_value H peers (empty_root H 0) (key_bits H key) ≡ root
