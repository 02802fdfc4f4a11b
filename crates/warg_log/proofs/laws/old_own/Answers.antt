use Rattle.std.proofs.Common.{◌≡◌, ℕ, List, inl, inr, take, Option, Some, refl, arith}
use Rattle.std.proofs.lemmas.Bool.{cases_lt}
use Rattle.warg_log.specs.Cut.{old_root, way_within, top_of}
use Rattle.warg_log.specs.Tree.{root_of, own_digest}
use Rattle.warg_log.proofs.CutLemmas.{old_root_own}
use Rattle.warg_log.proofs.laws.old_own.Goals as goal

-- at length 0 it is the root of no leaves
old_none : (H : List ℕ → List ℕ) (F : ℕ → Option (List ℕ)) (ds : List (List ℕ))
    → old_root H F 0 ≡ Some (root_of H (take 0 ds))
unfolding way_within top_of
old_none H F ds = refl

pub returns : goal.returns
returns c = λ H ds m fits. elim (cases_lt 0 m) [
  | inl some ↦ old_root_own H ds m some fits
  | inr none ↦ let no : m ≡ 0 = omega arith in rw no (old_none H (own_digest H ds) ds)
]
