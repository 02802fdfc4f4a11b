use Rattle.std.proofs.Common.{◌≡◌, ◌*◌, arith}
use Rattle.warg_log.proofs.ForCallers.{node_at}
use Rattle.warg_tiles.proofs.FetchLemmas.{added_first}
use Rattle.warg_tiles.proofs.fetch.tiles_for_inclusion.Goals as goal

pub add_inclusion-requires-clause-exists : goal.add_inclusion-requires-clause-exists
add_inclusion-requires-clause-exists g c =
    let at = node_at c.leaf.result.0 0 c.args.index c.leaf.ensures in
    rw (at.0, at.1) (omega (arith, c.requires.inside))

pub returns : goal.returns
returns g c =
    let number : c.leaf.result.0 ≡ 2 * c.args.index = omega (arith, c.leaf.ensures) in
    added_first c.args.length _ _ (rw (c.new-tiles.ensures.items, number) at c.in_ok-add_inclusion.ensures)
