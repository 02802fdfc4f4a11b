use Rattle.std.proofs.Common.{take}
use Rattle.std.specs.List.{flat_map}
use Rattle.warg_log.specs.Walks.{needed}
use Rattle.warg_bundle.specs.Private.Unions.{IsUnion}
use Rattle.warg_bundle.proofs.log.needed.add_inclusions.Given as goal

abbrev pub invariant-proofs : goal.invariant-proofs
invariant-proofs g l = IsUnion l.initial.numbers.keys l.numbers.keys
    (flat_map (λ p. needed p.leaf.0 p.log_length) (take l.proof-index l.proofs))
