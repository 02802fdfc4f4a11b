use Rattle.std.proofs.Common.{◌≡◌, map, refl, sym, ◌∙◌, arith}
use Rattle.std.proofs.lemmas.Result.{IfOk-weaker}
use Rattle.std.specs.Cmp.Lexicographic.{bytes_decides}
use Rattle.warg_witness.proofs.AgreementLemmas.{finds_met}
use Rattle.warg_witness.proofs.HashLemmas.{entries_count}
use Rattle.warg_witness.proofs.GrowthLemmas.{tree_roots, trees_met}
use Rattle.warg_witness.proofs.paths.tree.witness_tree.Goals as goal
use Rattle.warg_witness.proofs.paths.tree.witness_tree.Goals.{After-trees-2-1, then-ne-via-then-ne, then-ne-via-else-ne+then-ne-2}

pub returns-then-ne-clause-found : goal.returns-then-ne-clause-found
returns-then-ne-clause-found g c met =
    let plain = rw c.in_ok-trees.ensures.0 at c.root-plain_root.ensures in
    let roots = tree_roots _ (map g.V.VisitBytes.bytes c.args.old.now) (map g.V.VisitBytes.bytes c.args.new.now)
    (entries_count _ c.args.old.now) (entries_count _ c.args.new.now) plain c.args.path.now c.in-Some.ensures met in
    let old_root = roots.0 in
    elim c.then-ne.branch [
      | then-ne-via-then-ne w ↦ grind (arith, bytes_decides)
      | then-ne-via-else-ne+then-ne-2 w ↦
          let new_root = roots.1 ∙ sym (rw c.in_ok-trees.ensures.1 at w.root.ensures) in grind (arith, bytes_decides)
    ]

pub find_difference-requires : goal.find_difference-requires
find_difference-requires g c =
    let old_root : c.in-Some.old_root ≡ c.root-plain_root.result = grind (arith, bytes_decides) in
    let new_root : c.in-Some.new_root ≡ c.root.result = grind (arith, bytes_decides) in
    trees_met _ (map g.V.VisitBytes.bytes c.args.old.now) (map g.V.VisitBytes.bytes c.args.new.now)
    (entries_count _ c.args.old.now) (entries_count _ c.args.new.now)
    (rw c.in_ok-trees.ensures.0 at c.root-plain_root.ensures) c.args.path.now c.in-Some.ensures old_root
    (new_root ∙ rw c.in_ok-trees.ensures.1 at c.root.ensures) (c.if-not-leads.ensures.order refl)
    c.if-new-gt-MOST_LEAVES.false c.in_ok-trees.ensures.0 c.in_ok-trees.ensures.1

pub returns-clause-found : goal.returns-clause-found
returns-clause-found g c =
    let meeting = find_difference-requires g (goal.at.returns-clause-found g c).After-trees-2-1 in
    IfOk-weaker c.find_difference.result _ _ (finds_met _ _ meeting.met) c.find_difference.ensures
