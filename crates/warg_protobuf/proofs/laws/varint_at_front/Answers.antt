use Rattle.warg_protobuf.proofs.Readers.{found, begins, fault_found}
use Rattle.warg_protobuf.proofs.Varints.{varints}
use Rattle.warg_protobuf.proofs.laws.varint_at_front.Goals as goal

pub returns-clause-number : goal.returns-clause-number
returns-clause-number c bytes rest n = (found varints bytes n rest, begins varints bytes n rest)

pub returns-clause-fault : goal.returns-clause-fault
returns-clause-fault c bytes e = (fault_found varints bytes e, varints.fails bytes e)
