use Rattle.std.proofs.Common.{map, sym, subst, ◌∙◌}
use Rattle.std.proofs.lemmas.Result.{IfOk-weaker}
use Rattle.warg_tiles.specs.TileLog.{RightEdge, StandsFor, AreTilesOf, partial_tiles}
use Rattle.warg_tiles.proofs.PushLemmas.{edge_of}
use Rattle.warg_tiles.proofs.tile_log.TileLog.partial.Goals as goal

pub returns-clause-tiles : goal.returns-clause-tiles
returns-clause-tiles g c =
    IfOk-weaker c.partial_tiles.result _ _
    (λ tiles h ds stands.
    let old = subst (λ (e : RightEdge). StandsFor g.D.SupportedDigest.digest e ds) (sym c.self.view_is) stands in
    let edge = c.as_slice.ensures.value ∙ edge_of g.D.SupportedDigest.digest _ ds old in
    subst (λ (e : RightEdge). AreTilesOf g.D.SupportedDigest.digest ds (partial_tiles e.len)
    (map (λ t. (t.tile, t.digests.items)) tiles.items)) c.self.view_is
    (h g.D.SupportedDigest.digest ds old.count edge))
    c.partial_tiles.ensures.own
