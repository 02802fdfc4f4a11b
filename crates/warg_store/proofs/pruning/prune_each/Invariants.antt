use Rattle.std.proofs.Common.{◌≡◌, ◌≤◌, ℕ, List, true, None, IsSome, take, string_bytes}
use Rattle.std.specs.List.{All}
use Rattle.warg_folder.specs.Files.{Files, AreApart}
use Rattle.warg_folder.specs.Names.{is_staged}
use Rattle.warg_store.specs.Private.Steps.{IsPruning, PrunesOn}
use Rattle.warg_store.specs.Pruned.{AreGone, IsSpare}
use Rattle.warg_store.proofs.GoneLemmas.{AreLeft}
use Rattle.warg_store.proofs.pruning.prune_each.Given as goal

abbrev pub invariant-names : goal.invariant-names
invariant-names g l = record {
  faults : g.F.Folder.faults l.fn.folder ≤ g.F.Folder.faults l.folder;
  run : g.F.Folder.IsFaithful → PrunesOn g.F.Folder.moment g.F.Folder.left_since g.F.Folder.may_leave l.kept l.served
      l.fn.folder l.folder;
  staged : g.F.Folder.IsFaithful → (n : List ℕ) → is_staged n ≡ true → g.F.Folder.seen l.folder n
      ≡ g.F.Folder.seen l.fn.folder n;
  gone : g.F.Folder.IsFaithful → AreApart l.names
      → All (λ name. IsSome (g.F.Folder.seen l.fn.folder (string_bytes name))) l.names
      → AreGone l.removed (g.F.Folder.seen l.fn.folder) (g.F.Folder.seen l.folder)
      × AreLeft l.name-index l.names (g.F.Folder.seen l.folder);
  few : l.removed ≤ l.name-index;
  all : g.F.Folder.IsFaithful → (s : Files)
      → ((d : Files) → g.F.Folder.may_leave l.fn.folder d → IsPruning l.kept l.served s d)
      → All (λ name. IsSpare l.kept l.served s (string_bytes name)
      → g.F.Folder.seen l.folder (string_bytes name) ≡ None) (take l.name-index l.names);
}
