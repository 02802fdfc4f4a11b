use Rattle.std.proofs.Common.{◌++◌, length}
use Rattle.warg_protobuf.specs.Schema.{is_uint32}
use Rattle.warg_protobuf.specs.Varint.{IsVarint}
use Rattle.warg_protobuf.proofs.Loops.{Collects}
use Rattle.warg_protobuf.proofs.field.add_packed.Given as goal

abbrev pub invariant-loop-rest : goal.invariant-loop-rest
invariant-loop-rest g l = Collects IsVarint is_uint32 (λ ns. l.fn.numbers.items ++ ns) l.bytes l.rest l.numbers.items

abbrev pub decreases-loop-rest : goal.decreases-loop-rest
decreases-loop-rest g l = length l.rest
