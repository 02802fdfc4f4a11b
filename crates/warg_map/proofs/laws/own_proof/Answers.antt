use Rattle.std.proofs.Common.{ap, unwrap_or}
use Rattle.warg_crypto.specs.EmptyTrees.{empty_root}
use Rattle.warg_map.proofs.HonestProofs.{honest_held, honest_root, honest_replaced}
use Rattle.warg_map.proofs.laws.own_proof.Goals as goal

pub returns : goal.returns
returns c = λ H m bits peers x n p. let h = honest_held n p in (
  (λ held. honest_root H m bits peers n h (ap (λ o. unwrap_or o (empty_root H 0)) held)),
  honest_replaced H m bits peers x n h,
)
