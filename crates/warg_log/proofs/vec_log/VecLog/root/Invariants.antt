use Rattle.warg_log.specs.Tree.{leaves_in}
use Rattle.warg_log.proofs.SliceLemmas.{IsRootFrom}
use Rattle.warg_log.proofs.vec_log.VecLog.root.Given as goal

abbrev pub invariant-roots : goal.invariant-roots
invariant-roots g l = IsRootFrom g.D.SupportedDigest.digest (leaves_in l.self-inside.tree.items) l.end l.root

abbrev pub decreases-roots : goal.decreases-roots
decreases-roots g l = l.end
