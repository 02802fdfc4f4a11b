use Rattle.warg_log.specs.Tree.{leaves_in}
use Rattle.warg_log.proofs.SliceLemmas.{IsUpTo}
use Rattle.warg_log.proofs.vec_log.join_up.Given as goal

abbrev pub invariant-up : goal.invariant-up
invariant-up g l = IsUpTo g.D.SupportedDigest.digest (leaves_in l.initial.tree.items) l.tree.items l.count l.height l.at
    l.digest
