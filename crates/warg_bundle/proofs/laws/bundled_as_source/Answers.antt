use Rattle.warg_bundle.proofs.NeededLemmas.{bundle_holds}
use Rattle.warg_bundle.proofs.SourceLemmas.{included_same, consistent_same}
use Rattle.warg_bundle.proofs.laws.bundled_as_source.Goals as goal

pub returns : goal.returns
returns c = record {
  inclusions = λ H F cs ps b is. let holds = bundle_holds F cs ps b is in
      included_same H F b.hashes b.log_length b.consistent_lengths b.included_nodes holds.source holds.exactly;
  consistencies = λ H F cs ps b is. let holds = bundle_holds F cs ps b is in
      consistent_same H F b.hashes b.log_length b.consistent_lengths b.included_nodes holds.source holds.exactly;
}
