use Rattle.std.proofs.Common.{◌≡◌, ◌≤◌, ◌*◌, ℕ, List, take}
use Rattle.warg_folder.specs.Moments.{IsRead}
use Rattle.warg_store.specs.Log.{LogOf}
use Rattle.warg_store.specs.Reading.{Reads}
use Rattle.warg_registry.specs.Auditing.{AreReplayed}
use Rattle.warg_registry.specs.Insertions.{entries_of}
use Rattle.warg_registry.proofs.reader.RegistryReader.replay.Given as goal

abbrev pub invariant-bundles : goal.invariant-bundles
invariant-bundles g l = record {
  few : l.replay.last ≤ l.replay.log.len;
  same : (l.self.root ≡ l.fn.self.root) × (l.self.log.text ≡ l.fn.self.log.text);
  read : g.F.Folder.IsFaithful → IsRead g.F.Folder.seen g.F.Folder.may_leave g.F.Folder.moment g.F.Folder.left_since
      l.fn.self.log.folder l.self.log.folder;
  faults : g.F.Folder.faults l.fn.self.log.folder ≤ g.F.Folder.faults l.self.log.folder;
  replayed : (all : List (List ℕ × List ℕ)) × AreReplayed g.F.Folder.IsFaithful
      (g.F.Folder.seen l.fn.self.log.folder) l.fn.self.log.text.length l.replay.log l.replay.last all
      × (g.F.Folder.IsFaithful → (log : LogOf) → Reads g.F.Folder.seen log l.fn.self.log
      → entries_of all ≡ take (256 * l.bundle) log.entries);
}
