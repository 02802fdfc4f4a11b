use Rattle.std.proofs.lemmas.List.{take_all}
use Rattle.std.proofs.lemmas.List.Concat.{flat_map_single}
use Rattle.warg_log.specs.declared.node.Node.{Node}
use Rattle.warg_bundle.proofs.log.needed.add_inclusion.Goals as goal

pub returns : goal.returns
returns g c = rw (
  take_all _ _ c.nodes-test.false,
  c.nodes-node-items.ensures,
  flat_map_single (λ (m : Node). m.0) c.in-Ok.walk.nodes,
  c.in-Ok.ensures.needed,
) at c.nodes.invariant
