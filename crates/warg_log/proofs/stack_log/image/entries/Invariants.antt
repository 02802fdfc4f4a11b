use Rattle.std.proofs.Common.{◌≡◌, ◌+◌, ◌<◌, ◌^◌, ◌++◌, length, map, take, drop}
use Rattle.std.specs.List.{AllByRecursion, zip}
use Rattle.warg_protobuf.specs.HashEntry.{entry_view}
use Rattle.warg_log.specs.Nodes.{balanced_roots}
use Rattle.warg_log.specs.Images.{root_entry}
use Rattle.warg_log.proofs.stack_log.image.entries.Given as goal

abbrev pub invariant-blocks-2 : goal.invariant-blocks-2
invariant-blocks-2 g l = record {
  count : length l.blocks ≡ l.block-index + length l.roots;
  fit : AllByRecursion (λ t. t < 2 ^ 32) l.roots;
  written : map entry_view l.entries.items ++ map root_entry (zip l.roots (drop l.block-index l.blocks))
      ≡ map root_entry (zip (balanced_roots l.count) l.blocks);
  lengths : AllByRecursion (λ d. length d ≡ 32) (take l.block-index l.blocks);
}
