use Rattle.std.proofs.Common.{◌≡◌, ◌++◌, ◌-◌}
use Rattle.warg_tiles.specs.Between.{levels_from}
use Rattle.warg_tiles.proofs.between.tiles_between.Given as goal

abbrev pub invariant-levels : goal.invariant-levels
invariant-levels g l = l.tiles.items ++ levels_from (8 - l.level) l.level l.old_length l.new_length
    ≡ levels_from 8 0 l.old_length l.new_length
