use Rattle.std.proofs.Common.{length}
use Rattle.warg_folder.proofs.memory.+found.Given as goal

abbrev pub decreases-found : goal.decreases-found
decreases-found l = length l.calls.now
