use Rattle.std.proofs.Common.{◌≤◌, map, take}
use Rattle.warg_folder.specs.Moments.{IsRead}
use Rattle.std.specs.List.{AllByRecursion}
use Rattle.warg_store.specs.Private.Compared.{HasTiles, HasNarrower}
use Rattle.warg_store.proofs.auditing.compare_tiles.Given as goal

abbrev pub invariant-tiles : goal.invariant-tiles
invariant-tiles g l = record {
  faults : g.F.Folder.faults l.fn.folder ≤ g.F.Folder.faults l.folder;
  read : g.F.Folder.IsFaithful → IsRead g.F.Folder.seen g.F.Folder.may_leave g.F.Folder.moment g.F.Folder.left_since
      l.fn.folder l.folder;
  files : g.F.Folder.IsFaithful → HasTiles (g.F.Folder.seen l.fn.folder)
      (map (λ t. (t.tile, t.digests.items)) (take l.tile-index l.tiles));
  older : g.F.Folder.IsFaithful → AllByRecursion (HasNarrower (g.F.Folder.seen l.fn.folder))
      (map (λ t. (t.tile, t.digests.items)) (take l.tile-index l.tiles));
}
