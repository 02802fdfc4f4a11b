use Rattle.std.proofs.Common.{ap, ◌∙◌, length-append, unwrap_or}
use Rattle.warg_crypto.specs.EmptyTrees.{empty_root}
use Rattle.warg_map.proofs.HonestProofs.{honest_held, honest_prefix}
use Rattle.warg_map.proofs.laws.root_at_prefix.Goals as goal

pub returns : goal.returns
returns c = λ H m prefix rest peers x n p held.
    let beside = honest_held (length-append prefix rest ∙ n) p in
    honest_prefix H m prefix rest peers beside (ap (λ o. unwrap_or o (empty_root H 0)) held)
