use Rattle.std.proofs.Common.{◌∷◌, [], inl, inr, length, ap, arith, length-append}
use Rattle.warg_map.specs.Sparse.{sparse_root, map_of}
use Rattle.warg_claims.proofs.premises.checked_steps_are_needed.Goals as goal

pub returns : goal.returns
returns c = λ H law. elim (law [] (0 ∷ sparse_root H 256 (map_of H []))) [
  | inl same ↦ omega (arith, ap length same)
  | inr c ↦ omega (arith, ap length c.split, length-append c.before (c.step ∷ c.after))
]
