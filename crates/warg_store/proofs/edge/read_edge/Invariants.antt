use Rattle.std.proofs.Common.{◌≡◌, ◌≤◌, length, map}
use Rattle.std.specs.declared.alloc.Global.{Global}
use Rattle.warg_crypto.specs.declared.hash.Sha256.{Sha256}
use Rattle.warg_tiles.specs.declared.stored.StoredTile.{StoredTile}
use Rattle.warg_store.specs.Log.{LogOf, HasFiles}
use Rattle.warg_folder.specs.Moments.{IsRead}
use Rattle.warg_store.proofs.OpenLemmas.{ArePartsTo}
use Rattle.warg_store.proofs.edge.read_edge.Given as goal

abbrev pub invariant-levels : goal.invariant-levels
invariant-levels g l = record {
  faults : g.F.Folder.faults l.fn.folder ≤ g.F.Folder.faults l.folder;
  read : g.F.Folder.IsFaithful → IsRead g.F.Folder.seen g.F.Folder.may_leave g.F.Folder.moment g.F.Folder.left_since
      l.fn.folder l.folder;
  edge : g.F.Folder.IsFaithful → (log : LogOf) → l.log_length ≡ length log.entries
      → HasFiles log (g.F.Folder.seen l.fn.folder)
      → ArePartsTo log l.level (map (λ (t : StoredTile Sha256 Global). (t.tile, t.digests.items)) l.edge.items);
}
