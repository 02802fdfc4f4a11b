use Rattle.std.proofs.Common.{refl, ◌-◌, ◌^◌, arith}
use Rattle.warg_tiles.proofs.PremiseLemmas.{completed_low, only_last}
use Rattle.warg_tiles.specs.Tiles.{TileAt}
use Rattle.warg_tiles.proofs.premises.full_length_is_needed.Goals as goal

pub returns : goal.returns
returns c = λ law.
    let at : TileAt = record { level = 8; number = 0; width = 256 } in
    let there =
    ((law (2 ^ 72 - 1) (2 ^ 72)).exactly at).1 (
      refl,
      record { some = omega arith; width = refl },
      λ is. omega (arith, is.width),
    ) in
    let low = completed_low 8 0 (2 ^ 72) at (only_last at there) in omega arith
