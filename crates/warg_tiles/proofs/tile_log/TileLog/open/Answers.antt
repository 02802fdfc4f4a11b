use Rattle.std.proofs.Common.{◌++◌, map, ap, ◌∙◌, arith}
use Rattle.warg_tiles.specs.Private.Edges.{joined}
use Rattle.warg_tiles.proofs.OpenLemmas.{open_width, open_stands}
use Rattle.warg_tiles.proofs.SplitLemmas.{open_tiles}
use Rattle.warg_tiles.proofs.tile_log.TileLog.open.Goals as goal

pub invariant_of-result : goal.invariant_of-result
invariant_of-result g c =
    let edge = c.in_ok-push_digests.ensures ∙ ap (λ l. l ++ joined (map (λ t. t.digests.items) c.args.tiles.now))
    c.new-edge.ensures.items in (
      rw edge (open_width (λ t. t.tile) (λ t. t.digests.items) c.args.tiles.now c.args.log_length
          (λ t. t.count) c.in_ok-check_tiles.ensures.ok),
      c.requires,
      omega arith,
    )

pub returns-clause-stands : goal.returns-clause-stands
returns-clause-stands g c = λ ds count all.
    let edge = c.in_ok-push_digests.ensures ∙ ap (λ l. l ++ joined (map (λ t. t.digests.items) c.args.tiles.now))
    c.new-edge.ensures.items in
    rw c.new.ensures.items
    (open_stands g.D.SupportedDigest.digest ds c.push_digests.new.edge.items (λ t. t.tile)
    (λ t. t.digests.items) c.args.tiles.now c.args.log_length c.in_ok-check_tiles.ensures.ok count all edge)

pub returns-clause-edge : goal.returns-clause-edge
returns-clause-edge g c =
    let edge = c.in_ok-push_digests.ensures ∙ ap (λ l. l ++ joined (map (λ t. t.digests.items) c.args.tiles.now))
    c.new-edge.ensures.items in
    open_tiles (λ t. t.tile) (λ t. t.digests.items) c.args.tiles.now c.args.log_length c.push_digests.new.edge.items
    (λ t. t.count) c.in_ok-check_tiles.ensures.ok edge
