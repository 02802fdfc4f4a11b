use Rattle.std.proofs.Common.{◌≡◌, take}
use Rattle.std.specs.List.{flat_map}
use Rattle.warg_protobuf.specs.Varint.{varint_bytes}
use Rattle.warg_protobuf.proofs.writer.packed_bytes.Given as goal

abbrev pub invariant-loop-number : goal.invariant-loop-number
invariant-loop-number g l = l.out.items ≡ flat_map varint_bytes (take l.number-index l.numbers)
