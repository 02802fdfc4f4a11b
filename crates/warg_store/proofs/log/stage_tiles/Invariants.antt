use Rattle.std.proofs.Common.{◌≡◌, ◌≤◌, map, take}
use Rattle.warg_folder.specs.Moments.{LeavesOnly}
use Rattle.warg_folder.specs.Commits.{IsBeside, IsStaging}
use Rattle.warg_store.specs.Staged.{staged_all, new_files}
use Rattle.warg_store.proofs.log.stage_tiles.Given as goal

abbrev pub invariant-tiles : goal.invariant-tiles
invariant-tiles g l = record {
  staged : g.F.Folder.IsFaithful → g.F.Folder.seen l.folder
      ≡ staged_all (new_files l.older (map (λ t. (t.tile, t.digests.items)) (take l.stored-index l.tiles)))
      (g.F.Folder.seen l.fn.folder);
  staging : g.F.Folder.IsFaithful → IsStaging (g.F.Folder.seen l.folder) (g.F.Folder.may_leave l.folder);
  faults : g.F.Folder.faults l.fn.folder ≤ g.F.Folder.faults l.folder;
  time : g.F.Folder.IsFaithful → LeavesOnly g.F.Folder.moment g.F.Folder.left_since l.fn.folder l.folder
      (IsBeside (g.F.Folder.seen l.fn.folder));
}
