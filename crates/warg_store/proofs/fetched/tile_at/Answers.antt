use Rattle.std.proofs.Common.{arith}
use Rattle.warg_tiles.proofs.ForCallers.{low_level}
use Rattle.warg_store.proofs.fetched.tile_at.Goals as goal

pub returns-then-level-ge8-clause-of : goal.returns-then-level-ge8-clause-of
returns-then-level-ge8-clause-of c n below most of =
    absurd (grind (arith, low_level n c.args.tile.now most of, c.if-level-ge8.true, c.level.ensures.value))
