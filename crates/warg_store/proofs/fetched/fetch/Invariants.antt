use Rattle.std.proofs.Common.{◌≡◌, ◌≤◌, ℕ, length, take}
use Rattle.std.specs.Prelude.{◌^◌}
use Rattle.std.specs.List.{AllByRecursion}
use Rattle.warg_tiles.specs.Between.{IsTileOf}
use Rattle.warg_store.specs.Log.{LogOf, HasFiles}
use Rattle.warg_folder.specs.Moments.{Within}
use Rattle.warg_store.specs.Private.Fetched.{AreOwn, GivesMore}
use Rattle.warg_store.proofs.fetched.fetch.Given as goal

abbrev pub invariant-tiles : goal.invariant-tiles
invariant-tiles g l = record {
  faults : g.F.Folder.faults l.fn.folder ≤ g.F.Folder.faults l.folder;
  own : g.F.Folder.IsFaithful → (log : LogOf) (n : ℕ) → HasFiles log (g.F.Folder.seen l.fn.folder) → length log.entries
      ≡ l.log_length → n ≤ l.log_length → n ≤ 2 ^ 63
      → AllByRecursion (IsTileOf n) l.tiles → AreOwn log l.fn.fetched → AreOwn log l.fetched;
  gives : GivesMore l.fn.fetched (take l.tile-index l.tiles) l.fetched;
  seen : g.F.Folder.IsFaithful → g.F.Folder.seen l.folder ≡ g.F.Folder.seen l.fn.folder;
  crash : g.F.Folder.IsFaithful → Within (g.F.Folder.may_leave l.fn.folder) (g.F.Folder.may_leave l.folder);
}
