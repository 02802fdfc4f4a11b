use Rattle.std.proofs.Common.{[], ◌∷◌, ◌++◌, map, take, sym, ap, subst, ◌∙◌}
use Rattle.std.proofs.lemmas.List.{map-append}
use Rattle.warg_tiles.specs.TileLog.{RightEdge, StandsFor}
use Rattle.warg_tiles.proofs.PushLemmas.{push_ends, push_stands}
use Rattle.warg_tiles.proofs.tile_log.TileLog.push_last.Goals as goal

pub returns-clause-stands : goal.returns-clause-stands
returns-clause-stands g c = λ ds stands.
    let H = g.D.SupportedDigest.digest in
    let more = ds ++ c.args.digest ∷ [] in
    let old = subst (λ (e : RightEdge). StandsFor H e ds) (sym c.self.view_is) stands in
    let ends = push_ends H ds c.as_slice.result.now c.args.digest c.self.inside.count old.count
    (c.as_slice.ensures.value ∙ old.edge) in
    let made = c.push_reserved.ensures.items ∙ ap (λ l. l ++ c.in_ok-kept.digest ∷ [])
    (c.truncate.ensures.items ∙ ap (take c.in_ok-kept.kept) (c.in_ok-reserve.ensures.items
    ∙ sym c.as_slice.ensures.value)) ∙ c.in_ok-kept.ensures.edge more ends in
    let added = rw c.new-filled.ensures.items at (c.in_ok-kept.ensures.filled more ends) in
    let full = ap (map (λ t. (t.tile, t.digests.items))) c.in_ok-append.ensures.items
    ∙ map-append (λ t. (t.tile, t.digests.items)) c.self.inside.full.items c.fill.new.filled.items in
    push_stands H _ ds c.push_reserved.new.self.items c.args.digest _ _ c.self.invariant.2 old made added full
