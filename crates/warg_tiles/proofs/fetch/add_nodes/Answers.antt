use Rattle.std.proofs.Common.{[], ◌∷◌, get_or, map, take, sym, ◌∙◌}
use Rattle.std.proofs.lemmas.List.{map_more}
use Rattle.warg_log.specs.declared.node.Node.{Node}
use Rattle.warg_tiles.proofs.FetchLemmas.{added_known, added_new, added_append}
use Rattle.warg_tiles.proofs.fetch.add_nodes.Goals as goal
use Rattle.warg_tiles.proofs.fetch.add_nodes.Goals.{then-not-give+in_ok-push, else-not-give}

pub nodes-preserved : goal.nodes-preserved
nodes-preserved g c =
    let none : Node = record { 0 = 0 } in
    let x = (get_or c.args.nodes.now c.nodes.node-index none).0 in
    let asked = rw c.as_slice.ensures.value at c.give.ensures in
    let more = added_append c.args.length c.args.tiles.now.items c.nodes.tiles.items c.if-not-give.tiles.items
    (map (λ (x : Node). x.0) (take c.nodes.node-index c.args.nodes.now)) (x ∷ []) c.nodes.invariant in
    rw (map_more (λ (x : Node). x.0) c.args.nodes.now c.nodes.node-index none c.nodes-test.true)
    (more (elim c.if-not-give.branch [
      | then-not-give+in_ok-push w ↦
          rw (w.tiles-is, w.in_ok-push.ensures.items) (added_new c.args.length x c.nodes.tiles.items w.tile_for.result
          (sym asked ∙ w.if-not-give.true) w.tile_for.ensures.of w.tile_for.ensures.gives)
      | else-not-give w ↦ rw w.tiles-is
          (added_known c.args.length x c.nodes.tiles.items (sym asked ∙ w.if-not-give.false))
    ]))
