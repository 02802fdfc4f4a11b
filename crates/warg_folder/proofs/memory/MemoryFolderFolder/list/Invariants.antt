use Rattle.warg_folder.specs.Files.{AreApart}
use Rattle.warg_folder.proofs.ListedLemmas.{AreThere, AreAll}
use Rattle.warg_folder.proofs.memory.MemoryFolderFolder.list.Given as goal

abbrev pub invariant-each : goal.invariant-each
invariant-each l = record {
  there : AreThere l.calls l.prefix l.names.items;
  once : AreApart l.names.items;
  all : AreAll l.calls l.prefix l.call-index l.names.items;
}
