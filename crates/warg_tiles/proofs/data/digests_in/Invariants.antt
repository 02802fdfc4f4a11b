use Rattle.std.proofs.Common.{◌≡◌}
use Rattle.warg_tiles.specs.TileData.{digests_in}
use Rattle.warg_tiles.proofs.data.digests_in.Given as goal

abbrev pub invariant-places : goal.invariant-places
invariant-places g l = l.digests.items ≡ digests_in l.place l.bytes
