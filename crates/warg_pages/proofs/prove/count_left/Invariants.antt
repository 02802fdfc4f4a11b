use Rattle.std.proofs.Common.{◌≡◌, ◌-◌, drop, length, None}
use Rattle.std.specs.Prelude.{replicate}
use Rattle.warg_pages.proofs.prove.count_left.Given as goal

abbrev pub invariant-loop-passed : goal.invariant-loop-passed
invariant-loop-passed g l = drop (length l.peers - l.passed) l.peers ≡ replicate l.passed None
