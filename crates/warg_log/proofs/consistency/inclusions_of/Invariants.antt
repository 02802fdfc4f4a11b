use Rattle.std.proofs.Common.{◌≡◌, ◌++◌, map}
use Rattle.std.specs.List.{AllByRecursion}
use Rattle.warg_log.specs.Nodes.{balanced_roots}
use Rattle.warg_log.proofs.consistency.inclusions_of.Given as goal

abbrev pub invariant-roots : goal.invariant-roots
invariant-roots g l = record {
  cut : map (λ p. p.leaf.0) l.proofs.items ++ l.root-iterator ≡ balanced_roots l.old_length;
  lengths : AllByRecursion (λ p. p.log_length ≡ l.new_length) l.proofs.items;
}
