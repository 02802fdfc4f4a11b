use Rattle.std.proofs.Common.{refl, arith}
use Rattle.warg_tiles.proofs.PremiseLemmas.{leaf_tile}
use Rattle.warg_tiles.specs.Between.{levels_from}
use Rattle.warg_tiles.proofs.premises.old_length_is_needed.Goals as goal

pub returns : goal.returns
unfolding levels_from
returns c = λ law. let there =
    ((law 257 1 (omega arith)).exactly (leaf_tile 1)).1 (
      record { some = omega arith; width = refl },
      λ is. omega (arith, is.width),
    ) in omega (arith, there.1)
