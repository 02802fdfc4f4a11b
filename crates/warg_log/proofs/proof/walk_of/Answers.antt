use Rattle.std.proofs.Common.{◌∙◌}
use Rattle.warg_log.proofs.WayLemmas.{starts}
use Rattle.warg_log.proofs.StepLemmas.{walk_at}
use Rattle.warg_log.proofs.proof.walk_of.Goals as goal

pub returns : goal.returns
returns g c =
    let walk = walk_at _ _ _ _ _ _ _ _ c.in_ok-nodes.ensures.way c.in_ok-nodes.ensures.ends
    c.leaf_range-leaves.ensures c.end.ensures (rw c.between.ensures at c.in_ok-add_roots.ensures)
    (rw (c.of.ensures, starts c.leaves.view_is) at c.in_ok-add_roots-2.ensures) in
    rw (
      c.len-initial_walk_len.ensures ∙ c.in_ok-nodes.nodes.ok.0,
      c.len.ensures ∙ c.add_roots.new.nodes.ok.0,
      c.len-2.ensures ∙ c.add_roots-2.new.nodes.ok.0,
    ) (record { needed = walk.0; order = walk.1 })
