use Rattle.std.proofs.Common.{◌≡◌}
use Rattle.warg_map.specs.Bits.{bits_from}
use Rattle.warg_map.proofs.path.shared_bits.Given as goal

abbrev pub invariant-loop-shared : goal.invariant-loop-shared
invariant-loop-shared g l = bits_from l.a l.fn.from l.shared ≡ bits_from l.b l.fn.from l.shared
