use Rattle.std.proofs.Common.{◌≡◌, ◌∷◌, List, ℕ, length, map, not, None, sym, ap, ◌∙◌}
use Rattle.std.proofs.lemmas.List.{length-map}
use Rattle.std.specs.declared.alloc.Global.{Global}
use Rattle.warg_crypto.specs.Digests.{sha256}
use Rattle.warg_crypto.specs.declared.hash.Sha256.{Sha256}
use Rattle.warg_log.specs.Claims.{RootAndLength}
use Rattle.warg_log.specs.Tree.{leaves_of, own_digest}
use Rattle.warg_tiles.specs.Tiles.{TileAt}
use Rattle.warg_tiles.specs.TileData.{IsTileBy}
use Rattle.warg_tiles.specs.TileLog.{partial_tiles, tiles_fault}
use Rattle.warg_tiles.specs.declared.stored.StoredTile.{StoredTile}
use Rattle.warg_store.proofs.ListLemmas.{all_made}
use Rattle.warg_store.proofs.WholeLemmas.{tiles_none, places_of, only_memory, same_checkpoint}
use Rattle.warg_folder.proofs.ForCallers.{apart}
use Rattle.warg_store.proofs.edge.open_edge.Goals as goal

pub returns-clause-stands : goal.returns-clause-stands
returns-clause-stands c = λ kept size are.
    c.in-Ok.ensures.stands (leaves_of sha256 kept.entries) (length-map kept.entries (λ (e : List ℕ). sha256 (0 ∷ e))
    ∙ sym size ∙ sym c.length.ensures)
    (all_made (λ (x : TileAt × List (List ℕ)). IsTileBy (own_digest sha256 (leaves_of sha256 kept.entries)) x.0 x.1) _
    c.args.edge.now are.digests)

pub returns-in-Err-clause-whole : goal.returns-in-Err-clause-whole
returns-in-Err-clause-whole c = λ kept says are.
    let count : ◌≡◌ {A = ℕ} c.args.checkpoint.now.length (length kept.entries) =
    ap (λ (r : RootAndLength). r.length) says in
    let none : tiles_fault (partial_tiles c.length.result)
    (map (λ (t : StoredTile Sha256 Global). t.tile) c.args.edge.now) ≡ None =
    tiles_none _ _ (sym (places_of (λ (t : StoredTile Sha256 Global). t.tile)
    (λ (t : StoredTile Sha256 Global). t.digests.items)
    c.args.edge.now) ∙ are.places ∙ ap partial_tiles (sym (c.length.ensures ∙ count))) in
    c.refused_edge.ensures.memory (only_memory c.in-Err.error (λ e. cc (c.in-Err.ensures.count.0 e, none))
    (λ e. cc (c.in-Err.ensures.place.0 e, none)) (λ e. cc (c.in-Err.ensures.width.0 e, none)))

pub returns-then-ne-clause-whole : goal.returns-then-ne-clause-whole
returns-then-ne-clause-whole c = λ kept says are.
    let ds = leaves_of sha256 kept.entries in
    let size : ◌≡◌ {A = ℕ} c.args.checkpoint.now.length (length kept.entries) =
    ap (λ (r : RootAndLength). r.length) says in
    let stands = c.in-Ok.ensures.stands ds (length-map kept.entries (λ (e : List ℕ). sha256 (0 ∷ e)) ∙ sym size
    ∙ sym c.length.ensures)
    (all_made (λ (x : TileAt × List (List ℕ)). IsTileBy (own_digest sha256 ds) x.0 x.1) _ c.args.edge.now are.digests)
    in
    let root : c.checkpoint.result.root ≡ c.args.checkpoint.now.root = c.checkpoint.ensures.root ds stands
    ∙ sym (ap (λ (r : RootAndLength). r.root) says) in
    let count : c.checkpoint.result.length ≡ c.args.checkpoint.now.length = c.checkpoint.ensures.length
    ∙ c.in-Ok.ensures.length.0 ∙ c.length.ensures in
    let equal = same_checkpoint _ _ _ _ root count in
    absurd (apart (c.if-ne.ensures ∙ ap not equal))
