use Rattle.std.proofs.Common.{◌≡◌, take, map}
use Rattle.std.specs.List.{AllByRecursion}
use Rattle.warg_bundle.proofs.log.proof_bundle.inclusion_proofs.Given as goal

abbrev pub invariant-nodes : goal.invariant-nodes
invariant-nodes g l = record {
  leaves : map (λ p. p.leaf) l.proofs.items ≡ take l.node-index l.nodes;
  log_lengths : AllByRecursion (λ p. p.log_length ≡ l.log_length) l.proofs.items;
}
