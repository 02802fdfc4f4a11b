use Rattle.std.proofs.Common.{rules}
use Rattle.warg_map.proofs.ManyLeaves.{len-with_leaves}
use Rattle.warg_map.proofs.map.Map.extended_at_once.Goals as goal

pub with_leaves-requires : goal.with_leaves-requires
with_leaves-requires g c =
    search (rules, len-with_leaves 256 c.args.self.now c.in_ok-leaves.leaves.items, c.requires.few)
