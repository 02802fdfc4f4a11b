use Rattle.std.specs.FinMap.{get}
use Rattle.warg_map.proofs.HonestProofs.{honest_empty, honest_root, honest_replaced}
use Rattle.warg_map.proofs.laws.own_absence.Goals as goal

pub returns : goal.returns
returns c = λ H m bits peers x n p. let h = honest_empty H m bits peers (get m bits) n p in
    (honest_root H m bits peers n h, honest_replaced H m bits peers x n h)
