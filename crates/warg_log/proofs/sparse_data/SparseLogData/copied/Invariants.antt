use Rattle.std.proofs.Common.{◌≡◌, take}
use Rattle.warg_log.proofs.sparse_data.SparseLogData.copied.Given as goal

abbrev pub invariant-pairs : goal.invariant-pairs
invariant-pairs g l = l.pairs.items ≡ take l.pair-index l.self
