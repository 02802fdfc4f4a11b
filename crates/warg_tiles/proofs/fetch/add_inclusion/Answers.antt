use Rattle.warg_log.specs.Nodes.{ExistsAt}
use Rattle.warg_log.proofs.ForCallers.{needed_exist}
use Rattle.warg_tiles.proofs.FetchLemmas.{all_numbers}
use Rattle.warg_tiles.proofs.fetch.add_inclusion.Goals as goal

pub add_nodes-requires-clause-exist : goal.add_nodes-requires-clause-exist
add_nodes-requires-clause-exist g c =
    all_numbers (λ x. ExistsAt x c.args.length) c.nodes.result.now
    (rw (c.nodes.ensures, c.in-Ok.ensures.needed, c.prove_inclusion.ensures.leaf, c.prove_inclusion.ensures.log_length)
    (needed_exist c.args.node.0 c.args.length c.requires.some))
