use Rattle.std.proofs.Common.{◌+◌, ap, sym, ◌∙◌, subst}
use Rattle.warg_map.specs.Sparse.{SparseMap, HasLevels}
use Rattle.warg_map.proofs.ManyLeaves.{levels-with_leaves}
use Rattle.warg_map.proofs.map.Map.with_leaves.Goals as goal

pub invariant_of-result : goal.invariant_of-result
invariant_of-result g c =
    let es = c.args.leaves.items in
    let new = c.in_ok-grown.ensures.seen in (
      ap (λ d. d.0) new,
      ap (λ n. n + c.in_ok-grown.grown.fresh) c.self.invariant.1 ∙ c.in_ok-grown.ensures.count,
      subst (λ (m : SparseMap). HasLevels 256 m) (sym (ap (λ d. d.1) new))
          (levels-with_leaves c.self.inside.link.1 es c.self.invariant.2),
    )
