use Rattle.std.proofs.Common.{◌≡◌, take, map}
use Rattle.std.specs.List.{AllByRecursion}
use Rattle.warg_bundle.proofs.log.proof_bundle.consistency_proofs.Given as goal

abbrev pub invariant-lengths : goal.invariant-lengths
invariant-lengths g l = record {
  old_lengths : map (λ p. p.old_length) l.proofs.items ≡ take l.old_length-index l.old_lengths;
  new_lengths : AllByRecursion (λ p. p.new_length ≡ l.new_length) l.proofs.items;
}
