use Rattle.std.proofs.Common.{◌≡◌, ◌/◌, ◌∙◌}
use Rattle.warg_tiles.specs.Between.{filled}
use Rattle.warg_tiles.proofs.BetweenLemmas.{numbers_more, same_tile}
use Rattle.warg_tiles.proofs.between.push_level.Goals as goal

pub numbers-preserved : goal.numbers-preserved
numbers-preserved g c =
    let tile : c.new.result ≡ filled c.args.level c.args.new_count c.numbers.number =
    same_tile c.new.result _ _ _ c.new.ensures.level c.new.ensures.number
    (c.new.ensures.width ∙ c.min-width.ensures) in
    rw (c.in_ok-push.ensures.items, c.numbers.invariant, tile)
    (numbers_more c.args.tiles.now.items c.args.level c.args.new_count (c.args.old_count / 256) c.numbers.number
    c.numbers.auto.number)
