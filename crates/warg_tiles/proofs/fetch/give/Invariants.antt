use Rattle.std.proofs.Common.{◌≡◌, false, take}
use Rattle.warg_tiles.specs.Fetching.{gives}
use Rattle.warg_tiles.proofs.fetch.give.Given as goal

abbrev pub invariant-tiles : goal.invariant-tiles
invariant-tiles l = gives (take l.tile-index l.tiles) l.fn.node.0 ≡ false
