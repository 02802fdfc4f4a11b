use Rattle.std.proofs.Common.{◌≡◌, false, map, take}
use Rattle.warg_tiles.specs.TileData.{covered_by}
use Rattle.warg_tiles.proofs.data.any_covers.Given as goal

abbrev pub invariant-tiles : goal.invariant-tiles
invariant-tiles g l = covered_by (map (λ h. (h.tile, h.digests.items)) (take l.held-index l.tiles)) l.fn.tile ≡ false
