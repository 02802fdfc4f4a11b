use Rattle.std.proofs.Common.{ap, sym, ◌∙◌, subst}
use Rattle.std.specs.FinMap.{len, len-empty}
use Rattle.warg_map.specs.Sparse.{SparseMap, HasLevels}
use Rattle.warg_map.proofs.HeldKeys.{levels-empty}
use Rattle.warg_map.proofs.map.Map.default.Goals as goal

pub invariant_of-result : goal.invariant_of-result
invariant_of-result g c = (
  ap (λ d. d.0) c.new.ensures,
  sym (len-empty _ _) ∙ sym (ap (λ d. len d.1) c.new.ensures),
  subst (λ (m : SparseMap). HasLevels 256 m) (sym (ap (λ d. d.1) c.new.ensures)) levels-empty,
)
