use Rattle.std.proofs.Common.{◌≡◌}
use Rattle.std.specs.FinMap.{insert}
use Rattle.warg_map.specs.Bits.{last_bits}
use Rattle.warg_map.specs.Private.Grown.{with_leaves}
use Rattle.warg_map.proofs.map.Map.with_lone.Goals as goal
use Rattle.warg_map.proofs.map.Map.with_lone.Goals.{After-push_reserved}

-- one leaf alone
put : (g : _) (c : After-push_reserved g) → with_leaves 256 c.args.self.now c.push_reserved.new.self.items
    ≡ insert c.args.self.now (last_bits c.args.lone.key 256) c.args.lone.value
unfolding with_leaves
put g c = rw (c.push_reserved.ensures.items, c.in_ok-leaves.ensures.items)

pub with_leaves-requires : goal.with_leaves-requires
with_leaves-requires g c = rw (put g (goal.at.with_leaves-requires g c).After-push_reserved) c.requires

pub returns : goal.returns
returns g c = rw (put g (goal.at.returns g c).After-push_reserved) at c.with_leaves.ensures
