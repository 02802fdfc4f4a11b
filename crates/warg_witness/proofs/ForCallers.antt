-- Lemmas for the proofs of the crates above, over public definitions alone.
use Rattle.std.proofs.Common.{◌≡◌, ℕ, List, [], ◌∷◌, ◌++◌, IfSome}
use Rattle.std.specs.FinMap.{insert}
use Rattle.warg_crypto.specs.Tree.{leaf_digest}
use Rattle.warg_map.specs.Bits.{key_bits}
use Rattle.warg_map.specs.Last.{last_under}
use Rattle.warg_map.specs.Sparse.{SparseMap, inserted}
use Rattle.warg_witness.specs.MapClaims.{last_insertion}
use Rattle.warg_witness.proofs.InsertionLemmas as insertions
use Rattle.warg_witness.proofs.KeyLemmas as keys

-- a map with one insertion more
pub inserted_push : (H : List ℕ → List ℕ) (m : SparseMap) (es : List (List ℕ × List ℕ)) (key value : List ℕ)
    → inserted H m (es ++ (key, value) ∷ []) ≡ insert (inserted H m es) (key_bits H key) (leaf_digest H value)
inserted_push = keys.inserted_push

-- the last insertion under a key's digest is the key's last, if it is of this key
pub last_of_digest : (H : List ℕ → List ℕ) (key : List ℕ) (insertions : List (List ℕ × List ℕ))
    → IfSome (last_under H (key_bits H key) insertions) (λ e. key ≡ e.0)
    → last_insertion key insertions ≡ last_under H (key_bits H key) insertions
last_of_digest = insertions.last_of_digest
