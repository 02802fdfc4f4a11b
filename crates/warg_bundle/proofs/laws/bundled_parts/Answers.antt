use Rattle.warg_bundle.proofs.NeededLemmas.{bundle_holds}
use Rattle.warg_bundle.proofs.laws.bundled_parts.Goals as goal

pub returns : goal.returns
returns c = record {
  new_lengths = λ F cs ps b is. (bundle_holds F cs ps b is).new_lengths;
  log_lengths = λ F cs ps b is. (bundle_holds F cs ps b is).log_lengths;
  old_lengths = λ F cs ps b is. (bundle_holds F cs ps b is).old_lengths;
  nodes = λ F cs ps b is. (bundle_holds F cs ps b is).nodes;
  ascending = λ F cs ps b is. (bundle_holds F cs ps b is).ascending;
  exactly = λ F cs ps b is. (bundle_holds F cs ps b is).exactly;
  source = λ F cs ps b is. (bundle_holds F cs ps b is).source;
}
