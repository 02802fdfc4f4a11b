use Rattle.std.proofs.Common.{◌∙◌, refl, rules, List, ℕ}
use Rattle.std.proofs.lemmas.Iterator.{YieldsList-from_slice, YieldsList-from_map_by, items_from_drains}
use Rattle.warg_witness.proofs.map.plain.grown.Goals as goal

pub returns-in-Ok : goal.returns-in-Ok
returns-in-Ok g c =
    let (pairs, (last, (rest, yields, ends)), is) = c.in-Ok.ensures.ok in
    let all = items_from_drains {B = List ℕ × List ℕ} pairs (rest, yields, λ w. (last, ends))
    (YieldsList-from_map_by _ (λ p. (g.K.VisitBytes.bytes p.0.0.now, g.V.VisitBytes.bytes p.1.0.now))
    (λ e. (g.K.VisitBytes.bytes e.0, g.V.VisitBytes.bytes e.1))
    (YieldsList-from_slice c.args.insertions.now (rw c.map-pairs.ensures.source c.iter.ensures.rest))
    c.map-pairs.ensures.closure (λ x r q k. search rules)) in
    is ∙ rw (c.default.ensures, all) refl
