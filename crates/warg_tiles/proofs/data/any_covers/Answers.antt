use Rattle.std.proofs.Common.{sym, ◌∙◌, arith}
use Rattle.warg_tiles.proofs.DataLemmas.{covered_at}
use Rattle.warg_tiles.proofs.data.any_covers.Goals as goal

pub returns-then-covers : goal.returns-then-covers
returns-then-covers g c =
    sym (covered_at (λ h. (h.tile, h.digests.items)) c.args.tiles.now c.tiles.held-index c.held-item.result
    c.args.tile.now (omega arith) c.held-item.is (sym c.covers.ensures ∙ c.if-covers.true))
