use Rattle.std.proofs.Common.{◌≡◌, List, ℕ}
use Rattle.warg_crypto.specs.EmptyTrees.{empty_root}
use Rattle.warg_pages.specs.Private.Descents.{lone_root}
use Rattle.warg_pages.proofs.climb.lone_tree.Given as goal

abbrev pub invariant-loop-height : goal.invariant-loop-height
invariant-loop-height g l = record {
  value : (leaf : List ℕ) → l.digest ≡ lone_root g.D.SupportedDigest.digest l.key leaf l.fn.from
      → l.value ≡ lone_root g.D.SupportedDigest.digest l.key leaf l.height;
  empty : l.empty ≡ empty_root g.D.SupportedDigest.digest l.height;
}
