use Rattle.std.proofs.Common.{◌≡◌, take}
use Rattle.warg_map.specs.Sparse.{pair_bytes}
use Rattle.warg_witness.specs.MapClaims.{last_insertion}
use Rattle.warg_witness.proofs.map.last.last_value.Given as goal

-- none of the insertions from the place on is of the key
abbrev pub invariant-loop-place : goal.invariant-loop-place
invariant-loop-place g l =
    let insertions = pair_bytes g.K.VisitBytes.bytes g.V.VisitBytes.bytes l.insertions in
    last_insertion (g.K.VisitBytes.bytes l.key) insertions ≡ last_insertion (g.K.VisitBytes.bytes l.key)
    (take l.place insertions)
