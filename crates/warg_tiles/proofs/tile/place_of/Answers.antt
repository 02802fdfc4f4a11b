use Rattle.std.proofs.Common.{refl, sym, arith}
use Rattle.warg_log.specs.Nodes.{place_of}
use Rattle.warg_tiles.proofs.TileLemmas.{highest_first}
use Rattle.warg_tiles.proofs.tile.place_of.Goals as goal

pub returns-then-height-lt63 : goal.returns-then-height-lt63
unfolding place_of
returns-then-height-lt63 c = rw (c.index.ensures, c.height-height.ensures.value) refl

pub returns-else-height-lt63 : goal.returns-else-height-lt63
returns-else-height-lt63 c = sym (highest_first c.args.node.0 c.height-height.result _ c.height-height.ensures.node
    (omega arith) c.if-height-lt63.false)
