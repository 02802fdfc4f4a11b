use Rattle.std.proofs.Common.{length}
use Rattle.warg_witness.proofs.paths.growth.+divergence_over.Given as goal

abbrev pub decreases-divergence_over : goal.decreases-divergence_over
decreases-divergence_over g l = length l.path.now
