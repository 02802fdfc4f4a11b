use Rattle.std.proofs.Common.{◌≡◌, map, drop}
use Rattle.warg_tiles.specs.TileData.{digest_by}
use Rattle.warg_tiles.proofs.data.digest_in.Given as goal

abbrev pub invariant-tiles : goal.invariant-tiles
invariant-tiles g l = digest_by g.D.SupportedDigest.digest
    (map (λ h. (h.tile, h.digests.items)) (drop l.held-index l.tiles)) l.fn.node.0
    ≡ digest_by g.D.SupportedDigest.digest (map (λ h. (h.tile, h.digests.items)) l.tiles) l.fn.node.0
