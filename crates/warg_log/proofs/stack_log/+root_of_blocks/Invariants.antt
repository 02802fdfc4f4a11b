use Rattle.std.proofs.Common.{length}
use Rattle.warg_log.proofs.stack_log.+root_of_blocks.Given as goal

abbrev pub decreases-root_of_blocks : goal.decreases-root_of_blocks
decreases-root_of_blocks g l = length l.blocks.now
