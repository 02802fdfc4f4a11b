use Rattle.std.proofs.Common.{◌≡◌, take}
use Rattle.warg_map.specs.Sparse.{pair_bytes}
use Rattle.warg_witness.proofs.map.change.lent.Given as goal

abbrev pub invariant-insertions : goal.invariant-insertions
invariant-insertions g l =
    pair_bytes (λ k. g.K.VisitBytes.bytes k.0.now) (λ w. g.V.VisitBytes.bytes w.0.now) l.pairs.items
    ≡ pair_bytes g.K.VisitBytes.bytes g.V.VisitBytes.bytes (take l.key-index l.insertions)
