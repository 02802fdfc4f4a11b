use Rattle.std.proofs.Common.{◌++◌}
use Rattle.std.specs.Vec.Iter.{into_iter_items}
use Rattle.warg_registry.specs.Pruning.{bytes_of, AreNone, AreAmong, AreSome}
use Rattle.warg_registry.proofs.pruning.NeededPages.others.Given as goal

abbrev pub invariant-names : goal.invariant-names
invariant-names l = record {
  none : AreNone (bytes_of l.others.items) (bytes_of l.self.names.keys);
  all : AreAmong (bytes_of l.fn.names.items) (bytes_of (l.others.items ++ into_iter_items l.name-iterator))
      (bytes_of l.self.names.keys);
  some : AreSome (l.others.items ++ into_iter_items l.name-iterator) l.fn.names.items;
}
