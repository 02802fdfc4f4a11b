use Rattle.std.proofs.Common.{length}
use Rattle.warg_log.proofs.proof.+add_roots.Given as goal

abbrev pub decreases-add_roots : goal.decreases-add_roots
decreases-add_roots g l = length l.roots
