use Rattle.std.proofs.Common.{◌≤◌, map, take}
use Rattle.std.specs.Prelude.{string_bytes}
use Rattle.std.specs.List.{AllByRecursion}
use Rattle.warg_folder.specs.Moments.{IsRead}
use Rattle.warg_store.specs.Private.Compared.{IsBeginning}
use Rattle.warg_store.proofs.older.compare_older.Given as goal

abbrev pub invariant-names : goal.invariant-names
invariant-names g l = record {
  faults : g.F.Folder.faults l.fn.folder ≤ g.F.Folder.faults l.folder;
  read : g.F.Folder.IsFaithful → IsRead g.F.Folder.seen g.F.Folder.may_leave g.F.Folder.moment g.F.Folder.left_since
      l.fn.folder l.folder;
  older : g.F.Folder.IsFaithful → AllByRecursion (IsBeginning l.newer (g.F.Folder.seen l.fn.folder))
      (map (λ s. string_bytes s) (take l.name-index l.name-items));
}
