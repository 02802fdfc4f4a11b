-- What `==` on sides says of their bits.
use Rattle.std.proofs.Common.{◌≡◌, false, not, arith}
use denote.Enum.Bare.{sameb}
use Rattle.warg_crypto.specs.contracts.tree.Side.{the_type}
use Rattle.warg_crypto.specs.declared.tree.Side.{Side}
use Rattle.warg_crypto.specs.Sides.{side_bit}

pub same_bit : (x y : Side) → not (sameb the_type x y) ≡ false → side_bit x ≡ side_bit y
same_bit x y e = grind arith
