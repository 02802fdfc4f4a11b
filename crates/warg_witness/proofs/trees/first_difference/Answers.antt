use Rattle.std.proofs.Common.{[], map, arith}
use Rattle.std.proofs.lemmas.List.{take_more_same}
use Rattle.warg_witness.proofs.HashLemmas.{entries_count}
use Rattle.warg_witness.proofs.ShownLemmas.{entry_at}
use Rattle.warg_witness.proofs.trees.first_difference.Goals as goal

pub loop-place-preserved : goal.loop-place-preserved
loop-place-preserved g c =
    let old_count = entries_count g.V.VisitBytes.bytes c.args.old.now in
    let new_count = entries_count g.V.VisitBytes.bytes c.args.new.now in
    take_more_same (map g.V.VisitBytes.bytes c.args.old.now) (map g.V.VisitBytes.bytes c.args.new.now)
    c.loop-place.place [] (omega arith) (omega arith) c.loop-place.invariant (grind (arith, entry_at))
