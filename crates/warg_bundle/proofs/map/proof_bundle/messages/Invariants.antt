use Rattle.std.proofs.Common.{◌≡◌, map, take, drop}
use Rattle.warg_protobuf.specs.MapInclusionProof.{proof_view}
use Rattle.warg_protobuf.specs.Decoding.{first_fault}
use Rattle.warg_map.specs.Messages.{proof_fault}
use Rattle.warg_bundle.proofs.map.proof_bundle.messages.Given as goal

abbrev pub invariant-proofs : goal.invariant-proofs
invariant-proofs g l = record {
  written : map proof_view l.messages.items ≡ take l.proof-index l.proofs;
  fault : first_fault proof_fault l.proofs ≡ first_fault proof_fault (drop l.proof-index l.proofs);
}
