use Rattle.std.proofs.Common.{ltb, rules}
use Rattle.std.proofs.lemmas.List.Sorted.{IsPartitionPoint-from_clause, IsPartitionedBy-ltb}
use Rattle.warg_pages.specs.Slots.{SlotAt}
use Rattle.warg_pages.proofs.SlotRanges.{ascends_rise, below_point, above_point}
use Rattle.warg_pages.proofs.root.count_below.Goals as goal

pub returns-clause-below : goal.returns-clause-below
returns-clause-below g c =
    let rise = IsPartitionedBy-ltb (λ (y : SlotAt). y.byte) _ _
    (ascends_rise c.args.slots.now c.requires) in
    let at = IsPartitionPoint-from_clause (λ (y : SlotAt). ltb y.byte c.args.middle) _ _
    c.partition_point.ensures.partitioned rise (λ a r q k. search rules) in
    below_point c.args.slots.now _ c.args.middle at

pub returns-clause-above : goal.returns-clause-above
returns-clause-above g c =
    let rise = IsPartitionedBy-ltb (λ (y : SlotAt). y.byte) _ _
    (ascends_rise c.args.slots.now c.requires) in
    let at = IsPartitionPoint-from_clause (λ (y : SlotAt). ltb y.byte c.args.middle) _ _
    c.partition_point.ensures.partitioned rise (λ a r q k. search rules) in
    above_point c.args.slots.now _ c.args.middle at
