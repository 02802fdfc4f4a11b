use Rattle.std.proofs.Common.{◌≡◌, ◌<◌, take, drop, map}
use Rattle.std.specs.List.{AllByRecursion}
use Rattle.warg_protobuf.specs.HashEntry.{entry_view}
use Rattle.warg_log.specs.Sparse.{IsAscending}
use Rattle.warg_bundle.specs.LogBundles.{pair_of, entries_fault}
use Rattle.warg_bundle.proofs.log.proof_bundle.read_hashes.Given as goal

abbrev pub invariant-entries : goal.invariant-entries
invariant-entries g l = record {
  read : l.hashes.items ≡ map pair_of (map entry_view (take l.entry-index l.entries));
  fault : entries_fault 0 (map entry_view l.entries) ≡ entries_fault l.least
      (map entry_view (drop l.entry-index l.entries));
  ascending : IsAscending l.hashes.items;
  below : AllByRecursion (λ p. p.0.0 < l.least) l.hashes.items;
}
