use Rattle.std.proofs.Common.{ap, arith, map, take, ◌∙◌}
use Rattle.warg_crypto.specs.declared.hash.Sha256.{Sha256}
use Rattle.std.specs.declared.alloc.Global.{Global}
use Rattle.warg_tiles.specs.declared.stored.StoredTile.{StoredTile}
use Rattle.warg_folder.specs.Files.{Files}
use Rattle.warg_store.specs.Staged.{new_files}
use Rattle.warg_folder.proofs.ForCallers.{leaves_then}
use Rattle.warg_store.proofs.StagedLemmas.{one_more, staged_outside, beside_back}
use Rattle.warg_store.proofs.log.stage_tiles.Goals as goal

pub tiles-preserved : goal.tiles-preserved
tiles-preserved g c =
    let first = g.F.Folder.seen c.args.folder.now in
    record {
      staged = λ faithful. one_more (StoredTile Sha256 Global) (λ t. (t.tile, t.digests.items)) c.args.older
          c.args.tiles.now c.tiles.stored-index c.stored-item.result (omega arith) c.stored-item.is
          first (g.F.Folder.seen c.tiles.folder) (g.F.Folder.seen c.stage_new.new.folder)
          (c.tiles.invariant.staged faithful) (c.in_ok-stage_new.ensures.staged faithful);
      staging = c.stage_new.ensures.staging;
      faults = omega (arith, c.tiles.invariant.faults, c.stage_new.ensures.cause.later);
      time = λ faithful. leaves_then _ _ _ _ _ _ _ _ (c.tiles.invariant.time faithful)
          (c.stage_new.ensures.any_moment faithful) (λ e was. was)
          (λ e was. beside_back first (g.F.Folder.seen c.tiles.folder) e
          (λ n isnt. ap (λ (f : Files). f n) (c.tiles.invariant.staged faithful)
          ∙ staged_outside (new_files c.args.older
          (map (λ (t : StoredTile Sha256 Global). (t.tile, t.digests.items))
          (take c.tiles.stored-index c.args.tiles.now))) first n isnt) was);
    }
