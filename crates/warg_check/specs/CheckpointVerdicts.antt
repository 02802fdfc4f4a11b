-- Verdicts that bind checkpoints.
use Rattle.std.specs.Prelude.{◌≡◌, ℕ, ◌*◌, Bool, ◌&&◌, ◌==◌, List, length, Some, Result, Ok}
use Rattle.warg_crypto.specs.Tree.{leaf_digest}
use Rattle.warg_log.specs.declared.node.Node.{Node}
use Rattle.warg_log.specs.Claims.{leaf_claim}
use Rattle.warg_log.specs.Inclusion.{inclusion}
use Rattle.warg_log.specs.Consistency.{IsConsistent}
use Rattle.warg_log.specs.Sparse.{held_digest}
use Rattle.warg_bundle.specs.LogBundles.{Bundle, bundle_of}
use Rattle.warg_check.specs.declared.verdict.CheckError.{CheckError}
use Rattle.warg_check.specs.Verdicts.{verdict_at, includes, extends}

-- The node is that of the leaf at an index: leaf i is node 2 * i.
abbrev pub is_leaf_at : ℕ → Node → Bool
is_leaf_at index node = node.0 == 2 * index

-- A proof of a bundle is of the leaf at this index and at this length, and evaluates to the root with the value.
abbrev pub shows_entry : (List ℕ → List ℕ) → ℕ → List ℕ → ℕ → List ℕ → Bundle → Node → Bool
shows_entry H index value length root b node = is_leaf_at index node && (b.log_length == length && includes H value root b node)

-- The verdict on the inclusion proof at a place of a log bundle's bytes, for an index and a checkpoint.
abbrev pub entry_verdict : (List ℕ → List ℕ) → List ℕ → ℕ → ℕ → List ℕ → ℕ → List ℕ → Result Bool CheckError
entry_verdict H bytes at index value length root = verdict_at (λ (b : Bundle). b.included_nodes) (shows_entry H index value length root) at (bundle_of bytes)

-- A proof of a bundle is from the old length to the new one, and evaluates to both roots.
abbrev pub shows_growth : (List ℕ → List ℕ) → ℕ → List ℕ → ℕ → List ℕ → Bundle → ℕ → Bool
shows_growth H old_length old new_length new b m = m == old_length && (b.log_length == new_length && extends H old new b m)

-- The verdict on the consistency proof at a place of a log bundle's bytes, for two checkpoints.
abbrev pub growth_verdict : (List ℕ → List ℕ) → List ℕ → ℕ → ℕ → List ℕ → ℕ → List ℕ → Result Bool CheckError
growth_verdict H bytes at old_length old new_length new = verdict_at (λ (b : Bundle). b.consistent_lengths) (shows_growth H old_length old new_length new) at (bundle_of bytes)

-- Every digest of the bundle has 32 bytes.
abbrev pub HasHashes : Bundle → Type 0
HasHashes b = (node : ℕ) (digest : List ℕ) → held_digest b.hashes node ≡ Some digest → length digest ≡ 32

-- The bytes are a bundle by whose digests, of 32 bytes, the inclusion proof of the leaf at this index leads from the
-- value to this root.
pub record IsEntryShown (H : List ℕ → List ℕ) (bytes : List ℕ) (index : ℕ) (value : List ℕ) (n : ℕ) (root : List ℕ) : Type 0 where
  pub bundle : Bundle
  pub spelled : bundle_of bytes ≡ Ok bundle
  pub hashes : HasHashes bundle
  pub is : inclusion H (held_digest bundle.hashes) (leaf_claim index n) (leaf_digest H value) ≡ Ok root

-- The bytes are a bundle by whose digests, of 32 bytes, a consistency proof between these lengths has these roots.
pub record IsGrowthShown (H : List ℕ → List ℕ) (bytes : List ℕ) (old_length : ℕ) (old : List ℕ) (new_length : ℕ) (new : List ℕ) : Type 0 where
  pub bundle : Bundle
  pub spelled : bundle_of bytes ≡ Ok bundle
  pub hashes : HasHashes bundle
  pub roots : IsConsistent H (held_digest bundle.hashes) old_length new_length old new
