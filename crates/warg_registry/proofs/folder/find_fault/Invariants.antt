use Rattle.warg_registry.specs.Folder.{ReadsOn}
use Rattle.warg_registry.specs.Sources.{IsFailureTold}
use Rattle.warg_registry.proofs.folder.find_fault.Given as goal

abbrev pub invariant-keys : goal.invariant-keys
invariant-keys g l = record {
  read : g.F.Folder.IsFaithful → ReadsOn g.F.Folder.seen g.F.Folder.may_leave g.F.Folder.moment
      g.F.Folder.left_since l.fn.pages.log l.pages.log;
  told : IsFailureTold g.F.Folder.IsFaithful (g.F.Folder.faults l.fn.pages.log.folder)
      (g.F.Folder.faults l.pages.log.folder) l.pages.last.fault;
}
