use Rattle.std.proofs.Common.{◌≡◌}
use Rattle.warg_map.specs.Bits.{bits_from}
use Rattle.warg_pages.proofs.bits.shared_bits.Given as goal

abbrev pub invariant-loop-shared : goal.invariant-loop-shared
invariant-loop-shared g l = bits_from l.a 0 l.shared ≡ bits_from l.b 0 l.shared
