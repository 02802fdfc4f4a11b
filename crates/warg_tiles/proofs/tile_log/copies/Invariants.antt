use Rattle.std.proofs.Common.{◌≡◌, take}
use Rattle.warg_tiles.proofs.tile_log.copies.Given as goal

abbrev pub invariant-digests : goal.invariant-digests
invariant-digests g l = l.copies.items ≡ take l.digest-index l.digests
