use Rattle.std.proofs.Common.{◌≡◌, drop}
use Rattle.warg_protobuf.specs.Decoding.{first_fault}
use Rattle.warg_bundle.specs.Bundling.{inclusion_fault}
use Rattle.warg_bundle.proofs.log.needed.check_inclusions.Given as goal

abbrev pub invariant-proofs : goal.invariant-proofs
invariant-proofs g l = first_fault (inclusion_fault l.length) l.proofs ≡ first_fault (inclusion_fault l.length)
    (drop l.proof-index l.proofs)
