use Rattle.warg_protobuf.proofs.Readers.{fault_found}
use Rattle.warg_protobuf.proofs.Fields.{fields}
use Rattle.warg_protobuf.proofs.laws.field_fault_at_front.Goals as goal

pub returns : goal.returns
returns c bytes e = (fault_found fields bytes e, fields.fails bytes e)
