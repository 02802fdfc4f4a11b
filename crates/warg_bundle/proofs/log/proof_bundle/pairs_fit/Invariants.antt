use Rattle.std.proofs.Common.{◌^◌, ◌<◌, take}
use Rattle.std.specs.List.{AllByRecursion}
use Rattle.warg_bundle.proofs.log.proof_bundle.pairs_fit.Given as goal

abbrev pub invariant-pairs : goal.invariant-pairs
invariant-pairs g l = AllByRecursion (λ p. p.0.0 < 2 ^ 32) (take l.pair-index l.pairs)
