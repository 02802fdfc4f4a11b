use Rattle.std.proofs.Common.{refl, arith}
use Rattle.warg_tiles.proofs.PremiseLemmas.{levels_low}
use Rattle.warg_tiles.proofs.premises.new_length_is_needed.Goals as goal

pub returns : goal.returns
returns c = λ law.
    let there =
    ((law 18446744073709551615 18446744073709551616 (omega arith)).exactly (record {
      level = 8;
      number = 0;
      width =
          1;
    })).1 (record { some = omega arith; width = refl }, λ is. omega (arith, is.width)) in
    let low =
    levels_low 8 0 18446744073709551615 18446744073709551616 (record { level = 8; number = 0; width = 1 })
    (omega arith) there in omega arith
