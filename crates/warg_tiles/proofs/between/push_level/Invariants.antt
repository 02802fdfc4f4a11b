use Rattle.std.proofs.Common.{◌≡◌, ◌++◌, ◌/◌, ◌-◌, map}
use Rattle.std.specs.List.{range_with_len}
use Rattle.warg_tiles.specs.Between.{filled}
use Rattle.warg_tiles.proofs.between.push_level.Given as goal

abbrev pub invariant-numbers : goal.invariant-numbers
invariant-numbers g l = l.tiles.items ≡ l.initial.tiles.items ++ map (filled l.level l.new_count)
    (range_with_len (l.old_count / 256) (l.number - l.old_count / 256))
