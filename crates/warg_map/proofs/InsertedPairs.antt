-- Laws of insertions, one after the other.
use Rattle.std.proofs.Common.{◌≡◌, ℕ, List, [], ◌∷◌, ◌++◌, refl}
use Rattle.std.proofs.lemmas.List.{map_push}
use Rattle.std.specs.FinMap.{insert}
use Rattle.warg_map.specs.Bits.{key_bits}
use Rattle.warg_crypto.specs.Tree.{leaf_digest}
use Rattle.warg_map.specs.Sparse.{SparseMap, inserted, pair_bytes}

inserted-push : (H : List ℕ → List ℕ) (m : SparseMap) (es : List (List ℕ × List ℕ)) (e : List ℕ × List ℕ)
    → inserted H m (es ++ e ∷ []) ≡ insert (inserted H m es) (key_bits H e.0) (leaf_digest H e.1)
unfolding inserted
inserted-push H m [] e = refl
inserted-push H m (x ∷ es) e = inserted-push H (insert m (key_bits H x.0) (leaf_digest H x.1)) es e

pub inserted-pair : {K V : Type 0} (H : List ℕ → List ℕ) (kb : K → List ℕ) (vb : V → List ℕ) (m : SparseMap)
    (es : List (K × V)) (e : K × V) → inserted H m (pair_bytes kb vb (es ++ e ∷ []))
    ≡ insert (inserted H m (pair_bytes kb vb es)) (key_bits H (kb e.0)) (leaf_digest H (vb e.1))
inserted-pair {K} {V} H kb vb m es e = rw (map_push {Y = List ℕ × List ℕ} (λ (x : K × V). (kb x.0, vb x.1)) es e)
    (inserted-push H m (pair_bytes kb vb es) (kb e.0, vb e.1))
