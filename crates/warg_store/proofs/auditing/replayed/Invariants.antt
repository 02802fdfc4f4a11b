use Rattle.std.proofs.Common.{◌≡◌, ◌≤◌, ◌*◌, length, min, take}
use Rattle.warg_crypto.specs.Digests.{sha256}
use Rattle.warg_log.specs.Tree.{leaves_of}
use Rattle.warg_tiles.specs.TileLog.{StandsFor}
use Rattle.warg_store.specs.Audited.{HasEntries}
use Rattle.warg_store.specs.Log.{LogOf}
use Rattle.warg_store.specs.Private.Used.{IsReadyFor, IsUsed, IsEnough, HasUsed}
use Rattle.warg_store.proofs.auditing.replayed.Given as goal

abbrev pub invariant-bundles : goal.invariant-bundles
invariant-bundles g l = record {
  has : HasEntries l.log;
  ready : g.F.Folder.IsFaithful → IsReadyFor l.use_as (g.F.Folder.seen l.folder) (g.F.Folder.may_leave l.folder);
  files : g.F.Folder.IsFaithful → HasUsed l.use_as (g.F.Folder.seen l.fn.folder) (g.F.Folder.seen l.folder)
      (min (256 * l.number) l.log_length) l.log;
  used : g.F.Folder.IsFaithful → IsUsed l.use_as g.F.Folder.seen g.F.Folder.may_leave g.F.Folder.moment
      g.F.Folder.left_since l.fn.folder l.folder;
  own : g.F.Folder.IsFaithful → (kept : LogOf) → IsEnough l.use_as kept (g.F.Folder.seen l.fn.folder)
      → length kept.entries ≡ l.log_length
      → StandsFor sha256 l.log (leaves_of sha256 (take (256 * l.number) kept.entries));
  faults : g.F.Folder.faults l.fn.folder ≤ g.F.Folder.faults l.folder;
}
