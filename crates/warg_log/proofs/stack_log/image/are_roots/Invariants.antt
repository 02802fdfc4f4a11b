use Rattle.std.proofs.Common.{◌≡◌, nat_eq, map, drop}
use Rattle.std.specs.Cmp.Lexicographic.{pointwise}
use Rattle.warg_protobuf.specs.HashEntry.{entry_view}
use Rattle.warg_log.specs.Nodes.{balanced_roots}
use Rattle.warg_log.proofs.stack_log.image.are_roots.Given as goal

abbrev pub invariant-entries : goal.invariant-entries
invariant-entries g l = pointwise nat_eq (map (λ e. e.index) (map entry_view l.entries)) (balanced_roots l.count)
    ≡ pointwise nat_eq (map (λ e. e.index) (map entry_view (drop l.entry-index l.entries))) l.roots
