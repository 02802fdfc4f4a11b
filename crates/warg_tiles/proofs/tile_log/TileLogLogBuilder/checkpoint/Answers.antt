use Rattle.std.proofs.Common.{◌≡◌, ℕ, List, [], Option, None, unwrap_or, sym, ap, subst, ◌∙◌, refl}
use Rattle.warg_tiles.specs.TileLog.{RightEdge, StandsFor, edge_tiles, partial_tiles, split_into, root_on, root_by_tiles}
use Rattle.warg_tiles.proofs.PushLemmas.{edge_of}
use Rattle.warg_tiles.proofs.ChunkLemmas.{root_found, root_lacks}
use Rattle.warg_tiles.proofs.tile_log.TileLogLogBuilder.checkpoint.Goals as goal

pub returns-in-Some-clause-root : goal.returns-in-Some-clause-root
returns-in-Some-clause-root g c = λ ds stands.
    let old = subst (λ (e : RightEdge). StandsFor g.D.SupportedDigest.digest e ds) (sym c.self.view_is) stands in
    let edge = c.as_slice.ensures.value ∙ edge_of g.D.SupportedDigest.digest _ ds old in
    c.new.ensures.root ∙ root_found g.D.SupportedDigest.digest ds c.root_of_edge.result c.in-Some.root
    (c.root_of_edge.ensures.own ds old.count edge) c.in-Some.is

pub returns-in-None-clause-root : goal.returns-in-None-clause-root
returns-in-None-clause-root g c = λ ds stands.
    let old = subst (λ (e : RightEdge). StandsFor g.D.SupportedDigest.digest e ds) (sym c.self.view_is) stands in
    let edge = c.as_slice.ensures.value ∙ edge_of g.D.SupportedDigest.digest _ ds old in
    c.new-in-None.ensures.root ∙ c.hash_empty.ensures ∙ root_lacks g.D.SupportedDigest.digest ds c.root_of_edge.result
    (c.root_of_edge.ensures.own ds old.count edge) c.in-None.is

-- the root by what the edge gives
by_tiles : (H : List ℕ → List ℕ) (e view : RightEdge) (edge : List (List ℕ)) (found : Option (List ℕ))
    → edge ≡ e.digests → e ≡ view → found ≡ root_on H None (split_into (partial_tiles e.len) edge)
    → unwrap_or found (H []) ≡ root_by_tiles H (edge_tiles view)
by_tiles H e view edge found same is made =
    rw (made ∙ ap (λ l. root_on H None (split_into (partial_tiles e.len) l)) same)
    (rw is refl)
