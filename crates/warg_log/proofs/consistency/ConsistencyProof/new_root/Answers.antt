use Rattle.std.proofs.Common.{◌^◌, refl, lit<}
use Rattle.warg_log.proofs.OrderLemmas.{roots_end}
use Rattle.warg_log.proofs.consistency.ConsistencyProof.new_root.Goals as goal

pub common_root-requires : goal.common_root-requires
common_root-requires g c = (
  lit< tt,
  (
    rw c.of.ensures (roots_end c.self.inside.old_length (2 ^ 63) c.self.invariant.0),
    rw c.new-whole.ensures refl,
  ),
)
