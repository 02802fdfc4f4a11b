use Rattle.std.proofs.Common.{arith}
use Rattle.std.proofs.lemmas.Bool.{false≢true}
use Rattle.warg_tiles.proofs.ForCallers.{low_level}
use Rattle.warg_store.proofs.pruning.is_tile_of.Goals as goal

pub returns-then-level-ge8 : goal.returns-then-level-ge8
returns-then-level-ge8 c = (
  (λ yes. absurd (false≢true yes)),
  (λ is. absurd (omega (
    arith,
    low_level c.args.length c.args.tile.now c.requires is,
    c.if-level-ge8.true,
    c.level.ensures.value,
  ))),
)
