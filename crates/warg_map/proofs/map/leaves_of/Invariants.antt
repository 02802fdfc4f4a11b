use Rattle.std.proofs.Common.{◌≡◌}
use Rattle.warg_map.specs.Sparse.{SparseMap, inserted, pair_bytes}
use Rattle.warg_map.specs.Private.Grown.{with_leaves}
use Rattle.warg_map.proofs.map.leaves_of.Given as goal

abbrev pub invariant-loop-key : goal.invariant-loop-key
invariant-loop-key g l = (m : SparseMap) → with_leaves 256 m l.leaves.items ≡ inserted g.D.SupportedDigest.digest m
    (pair_bytes g.K.VisitBytes.bytes g.V.VisitBytes.bytes l.yielded)
