use Rattle.std.specs.FinMap.{get}
use Rattle.std.proofs.Common.{◌++◌, ◌∙◌, length-append}
use Rattle.warg_map.proofs.HonestProofs.{honest_absent, honest_prefix, leaf_absent}
use Rattle.warg_map.proofs.laws.absent_root_at_prefix.Goals as goal

pub returns : goal.returns
returns c =
    λ H m prefix rest peers n p. honest_prefix H m prefix rest peers
    (honest_absent (length-append prefix rest ∙ n) p) (leaf_absent (get m (prefix ++ rest)) _ p.absent)
