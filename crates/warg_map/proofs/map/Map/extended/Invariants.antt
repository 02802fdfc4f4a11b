use Rattle.std.proofs.Common.{◌≡◌}
use Rattle.warg_map.specs.Sparse.{inserted, pair_bytes}
use Rattle.warg_map.proofs.map.Map.extended.Given as goal

abbrev pub invariant-loop-key : goal.invariant-loop-key
invariant-loop-key g l = l.all ≡ inserted g.D.SupportedDigest.digest l.fn.self
    (pair_bytes g.K.VisitBytes.bytes g.V.VisitBytes.bytes l.yielded)
