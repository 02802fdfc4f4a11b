use Rattle.std.proofs.Common.{◌≡◌, ◌≤◌, map, true, None, take, string_bytes}
use Rattle.std.specs.List.{All}
use Rattle.warg_folder.specs.Files.{Files, AreApart}
use Rattle.warg_folder.specs.Moments.{Follows, LeavesOnly}
use Rattle.warg_folder.specs.Names.{is_page}
use Rattle.warg_store.specs.Pruned.{AreGone, ArePagesIn, IsWithoutPages}
use Rattle.warg_store.proofs.GoneLemmas.{AreLeft}
use Rattle.warg_store.proofs.pages.remove_each.Given as goal

abbrev pub invariant-names : goal.invariant-names
invariant-names g l = record {
  removed : g.F.Folder.IsFaithful → All (λ name. is_page (string_bytes name) ≡ true
      → g.F.Folder.seen l.folder (string_bytes name) ≡ None) (take l.name-index l.names);
  only : g.F.Folder.IsFaithful → IsWithoutPages (map (λ name. string_bytes name) l.names)
      (g.F.Folder.seen l.fn.folder) (g.F.Folder.seen l.folder);
  crash : g.F.Folder.IsFaithful → Follows (IsWithoutPages (map (λ name. string_bytes name) l.names))
      (g.F.Folder.may_leave l.fn.folder) (g.F.Folder.may_leave l.folder);
  faults : g.F.Folder.faults l.fn.folder ≤ g.F.Folder.faults l.folder;
  time : g.F.Folder.IsFaithful → LeavesOnly g.F.Folder.moment g.F.Folder.left_since l.fn.folder l.folder
      (λ c. (d : Files) × g.F.Folder.may_leave l.fn.folder d
      × IsWithoutPages (map (λ name. string_bytes name) l.names) d c);
  gone : g.F.Folder.IsFaithful → AreApart l.names
      → ArePagesIn (g.F.Folder.seen l.fn.folder) l.names
      → AreGone l.name-index (g.F.Folder.seen l.fn.folder) (g.F.Folder.seen l.folder)
      × AreLeft l.name-index l.names (g.F.Folder.seen l.folder);
}
