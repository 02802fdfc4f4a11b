use Rattle.std.proofs.Common.{[], ◌∷◌}
use Rattle.warg_map.specs.Private.Grown.{on_side}
use Rattle.warg_map.proofs.ManyLeaves.{on_side-append}
use Rattle.warg_map.proofs.grown.parted.Goals as goal

pub loop-leaf-init : goal.loop-leaf-init
unfolding on_side
loop-leaf-init g c = (c.new-near.ensures.items, c.new-far.ensures.items)

pub loop-leaf-preserved : goal.loop-leaf-preserved
loop-leaf-preserved g c = (
  rw (on_side-append c.args.at _ c.loop-leaf.yielded (c.in-Some.leaf ∷ []), ← c.loop-leaf.invariant.0)
      c.in_ok-push_by_side.ensures.0,
  rw (on_side-append c.args.at _ c.loop-leaf.yielded (c.in-Some.leaf ∷ []), ← c.loop-leaf.invariant.1)
      c.in_ok-push_by_side.ensures.1,
)
