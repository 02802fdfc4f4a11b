use Rattle.std.proofs.Common.{◌++◌}
use Rattle.warg_protobuf.specs.Varint.{varint_bytes}
use Rattle.warg_protobuf.proofs.Varints.{Writes}
use Rattle.warg_protobuf.proofs.writer.push_varint.Given as goal

abbrev pub invariant-loop-left : goal.invariant-loop-left
invariant-loop-left g l = Writes l.out.items l.left (l.fn.out.items ++ varint_bytes l.number)

abbrev pub decreases-loop-left : goal.decreases-loop-left
decreases-loop-left g l = l.left
