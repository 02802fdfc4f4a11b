use Rattle.std.proofs.Common.{[], ◌∷◌, take}
use Rattle.std.specs.List.{flat_map}
use Rattle.warg_log.specs.declared.node.Node.{Node}
use Rattle.warg_bundle.specs.Private.Unions.{IsUnion}
use Rattle.warg_bundle.proofs.log.needed.add_inclusion.Given as goal

abbrev pub invariant-nodes : goal.invariant-nodes
invariant-nodes g l = IsUnion l.initial.numbers.keys l.numbers.keys
    (flat_map (λ (m : Node). m.0 ∷ []) (take l.node-index l.node-items))
