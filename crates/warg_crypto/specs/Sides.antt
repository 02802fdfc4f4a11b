-- The bit that a side stands for.
use Rattle.std.specs.Prelude.{Bool, true, false}
use Rattle.warg_crypto.specs.declared.tree.Side.{Side}
use Rattle.warg_crypto.specs.declared.tree.Side.TheVariants.{Left, Right}

-- The bit 0 goes left, and the bit 1 right.
abbrev pub side_bit : Side → Bool
side_bit Left = false
side_bit Right = true
