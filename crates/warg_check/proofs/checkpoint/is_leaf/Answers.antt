-- A branch has no leaf's number.
use Rattle.std.proofs.Common.{◌≡◌, ◌+◌, ◌*◌, sym, refl, arith}
use Rattle.std.proofs.lemmas.Bool.{ne_eqb}
use Rattle.warg_log.proofs.ForCallers.{node_at}
use Rattle.warg_check.proofs.checkpoint.is_leaf.Goals as goal

pub returns-in-None : goal.returns-in-None
returns-in-None c = sym (ne_eqb c.args.node.0 (2 * c.args.index) (λ e.
    let node : c.args.node.0 + 1 ≡ 1 * (2 * c.args.index + 1) = omega arith in
    let leaf = (node_at c.args.node.0 0 c.args.index node).0 in
    let branch = c.in-None.ensures.branch.0 refl in
    absurd (omega (arith, leaf, branch))))
