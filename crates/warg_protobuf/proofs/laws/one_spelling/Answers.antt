use Rattle.warg_protobuf.proofs.Readers.{one_form}
use Rattle.warg_protobuf.proofs.Fields.{fields}
use Rattle.warg_protobuf.proofs.laws.one_spelling.Goals as goal

pub returns : goal.returns
returns c = one_form fields
