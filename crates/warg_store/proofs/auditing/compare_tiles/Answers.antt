use Rattle.std.proofs.Common.{◌≡◌, List, ℕ, Some, arith}
use Rattle.std.specs.declared.alloc.Global.{Global}
use Rattle.std.specs.List.{flat_map}
use Rattle.warg_crypto.specs.declared.hash.Sha256.{Sha256}
use Rattle.warg_tiles.specs.Tiles.{TileAt}
use Rattle.warg_tiles.specs.TilePaths.{tile_path}
use Rattle.warg_tiles.specs.declared.stored.StoredTile.{StoredTile}
use Rattle.warg_folder.proofs.ForCallers.{read_then}
use Rattle.warg_protobuf.proofs.ForCallers.{all_at}
use Rattle.warg_store.specs.Private.Compared.{IsOwnTile, HasNarrower}
use Rattle.warg_store.proofs.ListLemmas.{all_made}
use Rattle.warg_store.proofs.WholeLemmas.{err_same}
use Rattle.warg_store.proofs.ComparedLemmas.{all_more}
use Rattle.warg_store.proofs.auditing.compare_tiles.Goals as goal

abbrev with_digests : StoredTile Sha256 Global → TileAt × List (List ℕ)
with_digests t = (t.tile, t.digests.items)

pub tiles-preserved : goal.tiles-preserved
tiles-preserved g c = record {
  faults = omega (arith, c.tiles.invariant.faults, c.compare_tile.ensures.cause.later);
  read = λ faithful. read_then _ _ _ _ _ _ _ (g.met.F.Folder.counts_now c.args.folder.now)
      (c.tiles.invariant.read faithful)
      (c.compare_tile.ensures.read faithful);
  files = λ faithful.
      let first = g.F.Folder.seen c.args.folder.now in
      all_more (λ (t : TileAt × List (List ℕ)). first (tile_path t.0) ≡ Some (flat_map (λ digest. digest) t.1))
      with_digests c.args.tiles.now c.tiles.tile-index c.tile-item.result (omega arith) c.tile-item.is
      (c.tiles.invariant.files faithful)
      (rw (c.tiles.invariant.read faithful).found at (c.in_ok-compare_tile.ensures.file faithful));
  older = λ faithful. all_more (HasNarrower (g.F.Folder.seen c.args.folder.now)) with_digests c.args.tiles.now
      c.tiles.tile-index c.tile-item.result (omega arith) c.tile-item.is (c.tiles.invariant.older faithful)
      (rw (c.tiles.invariant.read faithful).found at (c.in_ok-compare_tile.ensures.older faithful));
}

pub returns-in_err-compare_tile-clause-whole : goal.returns-in_err-compare_tile-clause-whole
returns-in_err-compare_tile-clause-whole g c = λ faithful log whole own.
    let here : IsOwnTile log (with_digests c.tile-item.result) =
    rw c.tile-item.is (all_at (λ t. IsOwnTile log (with_digests t)) c.args.tiles.now c.tiles.tile-index
    c.tile-item.result
    (all_made (IsOwnTile log) with_digests c.args.tiles.now own) (omega arith)) in
    err_same _ _ _ c.from_residual.ensures.1
    (c.in_err-compare_tile.ensures.whole faithful log
    (rw (c.tiles.invariant.read faithful).found whole) here)
