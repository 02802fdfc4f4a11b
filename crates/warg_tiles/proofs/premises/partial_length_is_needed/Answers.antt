use Rattle.std.proofs.Common.{refl, arith}
use Rattle.warg_tiles.proofs.premises.partial_length_is_needed.Goals as goal

pub returns : goal.returns
returns c = λ law. let there =
    ((law 18446744073709551616).exactly (record { level = 8; number = 0; width = 1 })).1 (
      record {
        some = omega arith;
        width = refl;
      },
      omega arith,
    ) in omega (arith, there.1)
