use Rattle.std.proofs.Common.{length}
use Rattle.warg_tiles.proofs.TextLemmas.{Added}
use Rattle.warg_tiles.proofs.checkpoint_text.CheckpointText.read_extensions.Given as goal

abbrev pub invariant-lines : goal.invariant-lines
invariant-lines g l = Added l.fn.self l.self l.bytes l.rest

abbrev pub decreases-lines : goal.decreases-lines
decreases-lines g l = length l.rest
