use Rattle.std.proofs.Common.{[], ◌∷◌, ◌++◌, length, sym, ap, subst, ◌∙◌, arith}
use Rattle.std.proofs.lemmas.List.{append-nil, length-append}
use Rattle.warg_tiles.specs.TileLog.{RightEdge, StandsFor}
use Rattle.warg_tiles.proofs.EdgeLemmas.{width_more, edge_partial, nothing_added}
use Rattle.warg_tiles.proofs.PushLemmas.{push_ends, push_stands}
use Rattle.warg_tiles.proofs.tile_log.TileLogLogBuilder.push.Goals as goal

pub invariant_of-self-then-self-lt255 : goal.invariant_of-self-then-self-lt255
invariant_of-self-then-self-lt255 g c = (
  omega (
    arith,
    ap length c.in_ok-push.ensures.items,
    length-append c.self.inside.edge.items
        (c.hash_leaf-digest.result ∷ []),
    c.self.invariant.0,
    width_more 0 c.self.inside.count
        (omega arith) c.if-self-lt255.true,
  ),
  omega (arith, c.requires, ap (λ (e : RightEdge). e.len) c.self.view_is),
  omega (arith, c.self.invariant.2),
)

pub returns-then-self-lt255-clause-stands : goal.returns-then-self-lt255-clause-stands
returns-then-self-lt255-clause-stands g c = λ ds stands.
    let H = g.D.SupportedDigest.digest in
    let old = subst (λ (e : RightEdge). StandsFor H e ds) (sym c.self.view_is) stands in
    let ends = push_ends H ds c.self.inside.edge.items c.hash_leaf-digest.result c.self.inside.count old.count
    old.edge in
    let made = c.in_ok-push.ensures.items
    ∙ edge_partial H (ds ++ c.hash_leaf-digest.result ∷ []) c.self.inside.edge.items c.hash_leaf-digest.result 0
    c.self.inside.count (omega arith) c.if-self-lt255.true ends in
    rw (← c.hash_leaf-digest.ensures)
    (push_stands H _ ds c.push.new.self.items c.hash_leaf-digest.result [] _ c.self.invariant.2 old made
    (nothing_added H _ [] 0 c.self.inside.count (omega arith) c.if-self-lt255.true) (sym (append-nil _)))

pub returns-clause-stands : goal.returns-clause-stands
returns-clause-stands g c = rw c.hash_leaf-digest.ensures at c.in_ok-push_last.ensures.stands
