use Rattle.std.proofs.Common.{◌≤◌, map, take}
use Rattle.warg_store.specs.Growing.{IsReady, Has}
use Rattle.warg_store.specs.Log.{LogOf}
use Rattle.warg_folder.specs.Moments.{LeavesOnly}
use Rattle.warg_folder.specs.Commits.{IsBeside}
use Rattle.warg_registry.specs.Folder.{with_entries}
use Rattle.warg_registry.proofs.folder.push_all.Given as goal

abbrev pub invariant-entries : goal.invariant-entries
invariant-entries g l = record {
  pushed : g.F.Folder.IsFaithful → (served old next : LogOf)
      → Has g.F.Folder.seen g.F.Folder.may_leave served old next l.fn.log
      → Has g.F.Folder.seen g.F.Folder.may_leave served old
      (with_entries next (map (λ e. e.items) (take l.entry-index l.entries))) l.log;
  ready : g.F.Folder.IsFaithful → IsReady g.F.Folder.seen g.F.Folder.may_leave l.log;
  moments : g.F.Folder.IsFaithful → (served old next : LogOf)
      → Has g.F.Folder.seen g.F.Folder.may_leave served old next l.fn.log
      → LeavesOnly g.F.Folder.moment g.F.Folder.left_since l.fn.log.folder l.log.folder
      (IsBeside (g.F.Folder.seen l.fn.log.folder));
  faults : g.F.Folder.faults l.fn.log.folder ≤ g.F.Folder.faults l.log.folder;
}
