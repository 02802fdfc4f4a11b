use Rattle.std.proofs.Common.{◌-◌, map}
use Rattle.warg_log.specs.Nodes.{height_of}
use Rattle.warg_log.specs.Private.Climbs.{IsWayUp}
use Rattle.warg_log.proofs.proof.way_up.Given as goal

abbrev pub invariant-up : goal.invariant-up
invariant-up g l = IsWayUp l.fn.leaf.0 l.length l.node.0 (map (λ x. x.0) l.siblings.items)

abbrev pub decreases-up : goal.decreases-up
decreases-up g l = 64 - height_of l.node.0
