use Rattle.std.proofs.Common.{◌≡◌, take, drop, map}
use Rattle.warg_protobuf.specs.Decoding.{first_fault}
use Rattle.warg_bundle.specs.Bundling.{node_fault, node_with_digest}
use Rattle.warg_bundle.proofs.log.needed.digests_of.Given as goal

abbrev pub invariant-numbers : goal.invariant-numbers
invariant-numbers g l = record {
  pairs : l.pairs.items ≡ map (node_with_digest (g.L.LogData.digest_at l.hashes)) (take l.number-index l.numbers);
  fault : first_fault (node_fault (g.L.LogData.digest_at l.hashes)) l.numbers
      ≡ first_fault (node_fault (g.L.LogData.digest_at l.hashes)) (drop l.number-index l.numbers);
}
