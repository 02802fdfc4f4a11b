use Rattle.std.proofs.Common.{ℕ, ◌<◌, [], get_or}
use Rattle.warg_map.specs.Sparse.{pair_bytes}
use Rattle.warg_witness.specs.MapsPlaced.{HaveOneValue}
use Rattle.warg_witness.proofs.map.maps.first_apart.Given as goal

abbrev pub invariant-loop-key : goal.invariant-loop-key
invariant-loop-key g l =
    let of = pair_bytes g.K.VisitBytes.bytes g.V.VisitBytes.bytes l.of in
    (k : ℕ) → k < l.key-index → HaveOneValue l.first l.second (get_or of k ([], [])).0
