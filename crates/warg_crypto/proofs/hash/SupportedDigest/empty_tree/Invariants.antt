use Rattle.std.proofs.Common.{◌≡◌}
use Rattle.warg_crypto.specs.EmptyTrees.{empty_root}
use Rattle.warg_crypto.proofs.hash.SupportedDigest.empty_tree.Given as goal

abbrev pub invariant-loop-below : goal.invariant-loop-below
invariant-loop-below g l = l.empty ≡ empty_root g.Self.SupportedDigest.digest l.below
