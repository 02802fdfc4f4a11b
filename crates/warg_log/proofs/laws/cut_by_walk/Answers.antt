use Rattle.std.proofs.Common.{◌≡◌, ℕ, ◌<◌, List, ◌∷◌, ◌++◌, inl, inr, length, ap, arith, length-append}
use Rattle.std.proofs.lemmas.Bool.{cases_lt}
use Rattle.warg_log.specs.Nodes.{balanced_roots, balanced_within}
use Rattle.warg_log.proofs.ClimbLemmas.{cut_root_walk}
use Rattle.warg_log.proofs.laws.cut_by_walk.Goals as goal

-- a length with a balanced root isn't 0
some_root : (n root : ℕ) (left right : List ℕ) → balanced_roots n ≡ left ++ root ∷ right → 0 < n
unfolding balanced_within
some_root n root left right split = elim (cases_lt 0 n) [
  | inl some ↦ some
  | inr none ↦
      let no : n ≡ 0 = omega arith in
      absurd (omega (arith, ap length (rw no at split), length-append left (root ∷ right)))
]

pub returns : goal.returns
returns c =
    λ H F t x n steps left right split. cut_root_walk H F t x n steps left right (some_root n _ left right split) split
