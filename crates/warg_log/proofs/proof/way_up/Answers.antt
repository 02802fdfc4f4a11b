use Rattle.std.proofs.Common.{◌≡◌, sym, ◌∙◌, arith}
use Rattle.std.proofs.lemmas.Bool.{false≢true}
use Rattle.std.proofs.lemmas.List.{map_push}
use Rattle.warg_log.proofs.StepLemmas.{one_up, not_up, no_parent}
use Rattle.warg_log.proofs.NodeLemmas.{node_at}
use Rattle.warg_log.proofs.proof.way_up.Goals as goal
use Rattle.warg_log.proofs.proof.way_up.Goals.{then-up-test+else-exists_at_length, else-up-test}

pub up-preserved : goal.up-preserved
up-preserved g c =
    let same : c.parent.result.0 ≡ c.parent-node.result.0 = omega arith in
    rw (c.in_ok-push.ensures.items, map_push)
    (one_up _ _ _ _ _ _ c.up.invariant c.sibling.ensures c.parent-node.ensures
    (rw same at (c.exists_at_length.ensures.0 c.if-exists_at_length.true)))

pub up-smaller : goal.up-smaller
up-smaller g c = omega (arith, c.height.ensures.value, c.up-test.true, (node_at _ _ _ c.parent-node.ensures).0)

pub returns-clause-ends : goal.returns-clause-ends
returns-clause-ends g c = elim c.up-test.branch [
  | then-up-test+else-exists_at_length w ↦ no_parent _ _ _ w.parent.ensures
      (λ ends. false≢true (sym w.if-exists_at_length.false ∙ w.exists_at_length.ensures.1 ends))
  | else-up-test w ↦ not_up _ _ c.requires.fits (rw c.height.ensures.value at w.up-test.false)
]
