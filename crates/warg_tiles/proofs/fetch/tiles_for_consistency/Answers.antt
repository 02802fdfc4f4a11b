use Rattle.std.proofs.Common.{map, ap, ◌∙◌}
use Rattle.std.proofs.lemmas.List.{take_all}
use Rattle.warg_log.specs.declared.node.Node.{Node}
use Rattle.warg_tiles.proofs.FetchLemmas.{added_root, added_first, root_there}
use Rattle.warg_tiles.proofs.fetch.tiles_for_consistency.Goals as goal

pub add_root-requires : goal.add_root-requires
add_root-requires g c =
    let there = root_there c.args.old_length c.args.new_length c.as_slice-root-items.result.now c.roots.root-index
    (record { 0 = 0 }) c.requires.order (rw c.as_slice-root-items.ensures.value c.in_ok-roots.ensures)
    c.roots-test.true in
    record { exists = there.0; fits = c.requires.fits; some = there.1 }

pub roots-preserved : goal.roots-preserved
roots-preserved g c =
    added_root c.args.new_length c.roots.tiles.items c.add_root.new.tiles.items c.as_slice-root-items.result.now
    c.roots.root-index (record { 0 = 0 }) c.roots-test.true c.roots.invariant c.in_ok-add_root.ensures

pub returns : goal.returns
returns g c =
    let numbers = ap (map (λ (x : Node). x.0))
    (take_all c.roots.root-index c.as_slice-root-items.result.now c.roots-test.false
    ∙ c.as_slice-root-items.ensures.value) ∙ c.in_ok-roots.ensures in
    added_first c.args.new_length c.roots.tiles.items _ (rw numbers at c.roots.invariant)
