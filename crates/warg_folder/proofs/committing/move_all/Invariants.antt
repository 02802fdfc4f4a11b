use Rattle.std.proofs.Common.{◌≡◌, ◌≤◌, ℕ, List, true, None, map, take, string_bytes}
use Rattle.std.specs.List.{Contains}
use Rattle.warg_folder.specs.Files.{Files}
use Rattle.warg_folder.specs.Moments.{LeavesOnly}
use Rattle.warg_folder.specs.Names.{staged, is_served}
use Rattle.warg_folder.specs.Private.Steps.{IsMoving}
use Rattle.warg_folder.proofs.committing.move_all.Given as goal

abbrev pub invariant-names : goal.invariant-names
invariant-names g l = record {
  moved : g.F.Folder.IsFaithful → (n : List ℕ) → is_served n ≡ true
      → Contains (map (λ name. string_bytes name) (take l.name-index l.names)) (staged n)
      → g.F.Folder.seen l.folder (staged n) ≡ None;
  crash : g.F.Folder.IsFaithful → (c : Files) → g.F.Folder.may_leave l.folder c
      → IsMoving (g.F.Folder.seen l.fn.folder) c;
  faults : g.F.Folder.faults l.fn.folder ≤ g.F.Folder.faults l.folder;
  time : g.F.Folder.IsFaithful → LeavesOnly g.F.Folder.moment g.F.Folder.left_since l.fn.folder l.folder
      (IsMoving (g.F.Folder.seen l.fn.folder));
}
