use Rattle.std.proofs.Common.{sym, ◌∙◌, arith}
use Rattle.warg_log.specs.Tree.{leaves_in}
use Rattle.warg_log.proofs.AppendLemmas.{IsAppended, room_empty, room_more, appended}
use Rattle.warg_log.proofs.vec_log.VecLog.push_leaf.Goals as goal
use Rattle.warg_log.proofs.vec_log.VecLog.push_leaf.Goals.{After-push_reserved-2, then-self-ne0, else-self-ne0}

ready : (g : _) (c : After-push_reserved-2 g)
    → IsAppended g.D.SupportedDigest.digest (leaves_in c.self.inside.tree.items) c.push_reserved-2.new.self.items
    c.args.digest
ready g c = rw c.push_reserved-2.ensures.items (appended _ _ _ _ (elim c.if-self-ne0.branch [
  | then-self-ne0 w ↦ rw (
    w.tree-is,
    w.push_reserved.ensures.items,
    c.reserve.ensures.items,
    w.copied.ensures,
    c.self.invariant.2,
  ) (room_more g.D.SupportedDigest.digest _ c.self.invariant.1 (omega arith))
  | else-self-ne0 w ↦ rw (w.tree-is, c.reserve.ensures.items)
      (room_empty g.D.SupportedDigest.digest _ c.self.invariant.1 (sym c.self.invariant.0 ∙ w.if-self-ne0.false))
]))

pub join_up-requires-clause-count : goal.join_up-requires-clause-count
join_up-requires-clause-count g c =
    omega (arith, ready g (goal.at.join_up-requires-clause-count g c).After-push_reserved-2)

pub join_up-requires-clause-slice : goal.join_up-requires-clause-slice
join_up-requires-clause-slice g c = (ready g (goal.at.join_up-requires-clause-slice g c).After-push_reserved-2).slice

pub invariant_of-self-2 : goal.invariant_of-self-2
invariant_of-self-2 g c =
    let at = ready g (goal.at.invariant_of-self-2 g c).After-push_reserved-2 in
    rw c.join_up.ensures.leaves (omega (arith, at), c.join_up.ensures.slice, c.self.invariant.2, omega arith)

pub returns-clause-ok : goal.returns-clause-ok
returns-clause-ok g c =
    rw (← c.self.view_is) (c.join_up.ensures.leaves ∙ (ready g
    (goal.at.returns-clause-ok g c).After-push_reserved-2).leaves)
