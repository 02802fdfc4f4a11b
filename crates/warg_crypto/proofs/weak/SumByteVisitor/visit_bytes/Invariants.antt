use Rattle.std.proofs.Common.{◌≡◌, ◌%◌, sum, take, ◌+◌}
use Rattle.warg_crypto.proofs.weak.SumByteVisitor.visit_bytes.Given as goal

abbrev pub invariant-loop-byte : goal.invariant-loop-byte
invariant-loop-byte l = l.total ≡ (l.initial.total + sum (take l.byte-index l.bytes)) % 256
