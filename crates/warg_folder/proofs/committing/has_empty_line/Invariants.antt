use Rattle.std.proofs.Common.{◌≡◌, length}
use Rattle.warg_folder.specs.Commits.{has_empty_line}
use Rattle.warg_folder.proofs.committing.has_empty_line.Given as goal

abbrev pub invariant-bytes : goal.invariant-bytes
invariant-bytes l = has_empty_line l.bytes ≡ has_empty_line l.rest

abbrev pub decreases-bytes : goal.decreases-bytes
decreases-bytes l = length l.rest
