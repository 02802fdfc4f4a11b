use Rattle.warg_map.proofs.HeldKeys.{fits-insert}
use Rattle.warg_map.proofs.map.Map.with_leaf.Goals as goal

pub with_lone-requires : goal.with_lone-requires
with_lone-requires g c = rw (c.leaf.ensures.key, c.copied.ensures)
    (fits-insert c.args.self.now _ _ c.is_full_for.ensures.few (λ full. cc (c.in_ok-is_full_for.ensures.full.1 full)))
