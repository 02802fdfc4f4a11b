use Rattle.std.proofs.Common.{refl, ◌∙◌, arith}
use Rattle.warg_tiles.proofs.BetweenLemmas.{same_tile}
use Rattle.warg_tiles.proofs.FetchLemmas.{least_there, tile_made_for}
use Rattle.warg_tiles.proofs.fetch.tile_for.Goals as goal

pub overflow_shr-count : goal.overflow_shr-count
overflow_shr-count c = omega (
  arith,
  least_there c.args.node.0 c.args.length c.over-least.result c.over-least.ensures
      c.requires.exists c.requires.fits,
  c.level.ensures.value,
)

pub returns : goal.returns
returns c =
    let at = same_tile c.new.result _ _ c.new.result.width (c.new.ensures.level ∙ c.level-2.ensures.value)
    (c.new.ensures.number ∙ c.number-2.ensures.value) refl in
    let made = tile_made_for c.args.node.0 c.args.length c.new.result c.over-least.result at
    (c.new.ensures.width ∙ rw (c.level.ensures.value, c.number.ensures.value) at c.min-width.ensures)
    c.over-least.ensures c.requires.exists c.requires.fits in
    record { of = made.1; gives = made.2 }

pub new-requires-clause-some : goal.new-requires-clause-some
new-requires-clause-some c =
    omega (
      arith,
      least_there c.args.node.0 c.args.length c.over-least.result c.over-least.ensures c.requires.exists
          c.requires.fits,
      rw (c.level.ensures.value, c.number.ensures.value) at c.min-width.ensures,
    )
