use Rattle.std.proofs.Common.{◌≡◌, ◌≤◌, take}
use Rattle.warg_store.specs.Growing.{IsReady, Has}
use Rattle.warg_store.specs.Log.{LogOf}
use Rattle.warg_folder.specs.Moments.{LeavesOnly}
use Rattle.warg_folder.specs.Commits.{IsBeside}
use Rattle.warg_registry.specs.Folder.{with_pages, files_of, AreFresh}
use Rattle.warg_registry.proofs.folder.put_all.Given as goal

abbrev pub invariant-pages : goal.invariant-pages
invariant-pages g l = record {
  put : g.F.Folder.IsFaithful → (served old next : LogOf)
      → Has g.F.Folder.seen g.F.Folder.may_leave served old next l.fn.log
      → AreFresh served old next (files_of l.changed)
      → Has g.F.Folder.seen g.F.Folder.may_leave served old (with_pages next (files_of (take l.page-index l.changed)))
      l.log;
  ready : g.F.Folder.IsFaithful → IsReady g.F.Folder.seen g.F.Folder.may_leave l.log;
  moments : g.F.Folder.IsFaithful → (served old next : LogOf)
      → Has g.F.Folder.seen g.F.Folder.may_leave served old next l.fn.log
      → LeavesOnly g.F.Folder.moment g.F.Folder.left_since l.fn.log.folder l.log.folder
      (IsBeside (g.F.Folder.seen l.fn.log.folder));
  faults : g.F.Folder.faults l.fn.log.folder ≤ g.F.Folder.faults l.log.folder;
  stays : l.log.is_open ≡ l.fn.log.is_open;
}
