use Rattle.std.proofs.Common.{[], ◌∙◌}
use Rattle.warg_crypto.specs.EmptyTrees.{empty_root}
use Rattle.warg_crypto.proofs.hash.SupportedDigest.empty_tree.Goals as goal

pub loop-below-init : goal.loop-below-init
unfolding empty_root
loop-below-init g c = let taken = c.visit_bytes.ensures [] c.start-leaf.ensures in c.from_array-empty.ensures
    ∙ c.finish.ensures _ taken
