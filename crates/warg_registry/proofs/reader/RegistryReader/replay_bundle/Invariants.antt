use Rattle.std.proofs.Common.{◌≡◌, ◌≤◌, ◌+◌, ◌++◌, ℕ, List, take, map}
use Rattle.warg_folder.specs.Moments.{IsRead}
use Rattle.warg_registry.specs.Auditing.{AreReplayed}
use Rattle.warg_registry.specs.Insertions.{entries_of}
use Rattle.warg_registry.proofs.reader.RegistryReader.replay_bundle.Given as goal

abbrev pub invariant-entries : goal.invariant-entries
invariant-entries g l = record {
  few : l.replay.last ≤ l.replay.log.len;
  count : l.replay.log.len ≡ l.fn.replay.log.len + l.entry-index;
  same : (l.self.root ≡ l.fn.self.root) × (l.self.log.text ≡ l.fn.self.log.text);
  read : g.F.Folder.IsFaithful → IsRead g.F.Folder.seen g.F.Folder.may_leave g.F.Folder.moment g.F.Folder.left_since
      l.fn.self.log.folder l.self.log.folder;
  faults : g.F.Folder.faults l.fn.self.log.folder ≤ g.F.Folder.faults l.self.log.folder;
  replayed : (before : List (List ℕ × List ℕ)) → AreReplayed g.F.Folder.IsFaithful
      (g.F.Folder.seen l.fn.self.log.folder) l.fn.self.log.text.length l.fn.replay.log l.fn.replay.last before
      → (more : List (List ℕ × List ℕ)) × AreReplayed g.F.Folder.IsFaithful (g.F.Folder.seen l.fn.self.log.folder)
      l.fn.self.log.text.length l.replay.log l.replay.last (before ++ more)
      × (entries_of more ≡ take l.entry-index (map (λ e. e.items) l.entry-items));
}
