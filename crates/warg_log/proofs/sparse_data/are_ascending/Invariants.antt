use Rattle.std.proofs.Common.{ℕ, suc, ◌<◌, get_or}
use Rattle.warg_log.specs.declared.node.Node.{Node}
use Rattle.std.proofs.Common.{List}
use Rattle.warg_log.proofs.sparse_data.are_ascending.Given as goal

-- each number so far lies below the next one
abbrev pub invariant-places : goal.invariant-places
invariant-places g l = (k : ℕ) (d : Node × List ℕ) → suc k < l.place
    → (get_or l.pairs k d).0.0 < (get_or l.pairs (suc k) d).0.0
