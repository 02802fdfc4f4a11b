use Rattle.std.proofs.Common.{◌∷◌, []}
use Rattle.std.proofs.lemmas.Result.{on_ok_weaker}
use Rattle.warg_log.specs.Walks.{needed}
use Rattle.warg_tiles.proofs.FetchLemmas.{added_append}
use Rattle.warg_tiles.proofs.fetch.add_root.Goals as goal

pub returns : goal.returns
returns g c =
    on_ok_weaker c.add_inclusion.result
    (λ added. added_append c.args.length c.args.tiles.now.items c.add_nodes.new.tiles.items
    c.add_inclusion.new.tiles.items (c.args.root.0 ∷ []) (needed c.args.root.0 c.args.length)
    c.in_ok-add_nodes.ensures added)
    c.add_inclusion.ensures
