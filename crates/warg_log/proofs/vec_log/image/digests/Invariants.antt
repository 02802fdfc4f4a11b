use Rattle.std.proofs.Common.{◌≡◌, length, take}
use Rattle.std.specs.List.{AllByRecursion}
use Rattle.warg_log.proofs.vec_log.image.digests.Given as goal

abbrev pub invariant-places : goal.invariant-places
invariant-places g l = record {
  digests : l.digests.items ≡ take l.hash-index l.tree;
  lengths : AllByRecursion (λ d. length d ≡ 32) (take l.hash-index l.tree);
}
