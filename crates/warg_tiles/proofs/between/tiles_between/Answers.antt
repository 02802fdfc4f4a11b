use Rattle.std.proofs.Common.{◌≡◌, ◌∙◌, arith}
use Rattle.warg_tiles.proofs.BetweenLemmas.{all_levels, levels_more}
use Rattle.warg_tiles.proofs.between.tiles_between.Goals as goal

pub levels-preserved : goal.levels-preserved
levels-preserved g c = rw c.in_ok-push_level.ensures
    (levels_more c.levels.tiles.items c.levels.level c.args.old_length c.args.new_length c.levels-test.true
    ∙ c.levels.invariant)

pub returns : goal.returns
returns g c =
    let last : c.levels.level ≡ 8 = omega arith in
    all_levels c.levels.tiles.items c.levels.level c.args.old_length c.args.new_length last c.levels.invariant
