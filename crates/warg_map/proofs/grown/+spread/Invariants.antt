use Rattle.std.proofs.Common.{◌+◌, ◌-◌, ◌*◌}
use Rattle.warg_map.proofs.grown.+spread.Given as goal

abbrev pub decreases-spread : goal.decreases-spread
decreases-spread g l = 3 * (256 - l.depth) + 1

abbrev pub decreases-spread_stem : goal.decreases-spread_stem
decreases-spread_stem g l = 3 * (256 - l.from) + 2 * (1 - (l.stem.now.from + l.stem.now.len - l.from))

abbrev pub decreases-spread_fork : goal.decreases-spread_fork
decreases-spread_fork g l = 3 * (256 - l.depth)
