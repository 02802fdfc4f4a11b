use Rattle.std.proofs.Common.{◌≡◌, length, take, map}
use Rattle.std.specs.List.{AllByRecursion}
use Rattle.warg_protobuf.specs.HashEntry.{entry_view}
use Rattle.warg_bundle.specs.LogBundles.{entry_of}
use Rattle.warg_bundle.proofs.log.proof_bundle.entries.Given as goal

abbrev pub invariant-pairs : goal.invariant-pairs
invariant-pairs g l = record {
  entries : map entry_view l.entries.items ≡ map entry_of (take l.pair-index l.pairs);
  lengths : AllByRecursion (λ p. length p.1 ≡ 32) (take l.pair-index l.pairs);
}
