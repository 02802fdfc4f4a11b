use Rattle.std.proofs.Common.{◌≡◌, ◌⊎◌, ◌≤◌, ℕ, List, None, take, string_bytes}
use Rattle.std.specs.List.{All}
use Rattle.warg_folder.specs.Files.{Files}
use Rattle.warg_folder.specs.Moments.{LeavesOnly}
use Rattle.warg_folder.specs.Private.Steps.{IsRemoving}
use Rattle.warg_folder.proofs.staging.remove_all.Given as goal

abbrev pub invariant-names : goal.invariant-names
invariant-names g l = record {
  removed : g.F.Folder.IsFaithful → All (λ name. g.F.Folder.seen l.folder (string_bytes name) ≡ None)
      (take l.name-index l.names);
  fewer : g.F.Folder.IsFaithful → (n : List ℕ) → (g.F.Folder.seen l.folder n ≡ g.F.Folder.seen l.fn.folder n)
      ⊎ (g.F.Folder.seen l.folder n ≡ None);
  crash : g.F.Folder.IsFaithful → (c : Files) → g.F.Folder.may_leave l.folder c
      → IsRemoving (g.F.Folder.seen l.fn.folder) c;
  faults : g.F.Folder.faults l.fn.folder ≤ g.F.Folder.faults l.folder;
  time : g.F.Folder.IsFaithful → LeavesOnly g.F.Folder.moment g.F.Folder.left_since l.fn.folder l.folder
      (IsRemoving (g.F.Folder.seen l.fn.folder));
}
