use Rattle.warg_protobuf.proofs.Varints.{varint_bytes_is, varint_shortest}
use Rattle.warg_protobuf.proofs.laws.shortest_varint.Goals as goal

pub returns-clause-spells : goal.returns-clause-spells
returns-clause-spells c = varint_bytes_is

pub returns-clause-shortest : goal.returns-clause-shortest
returns-clause-shortest c = varint_shortest
