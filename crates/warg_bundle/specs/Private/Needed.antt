-- The digests that proofs of one length need.
use Rattle.std.specs.Prelude.{ℕ, List, map, Option, Result}
use Rattle.warg_protobuf.specs.Decoding.{unless, first_fault}
use Rattle.warg_log.specs.declared.node.Node.{Node}
use Rattle.warg_log.specs.Sparse.{Pairs}
use Rattle.warg_bundle.specs.declared.log.error.BundleError.{BundleError}
use Rattle.warg_bundle.specs.Bundling.{needed_ascending, node_fault, node_with_digest}

-- The needed nodes of proofs at length n with their digests, or that F lacks one.
abbrev pub digests_at : (ℕ → Option (List ℕ)) → List ℕ → List Node → ℕ → Result Pairs BundleError
digests_at F old_lengths nodes n = unless (first_fault (node_fault F) (needed_ascending old_lengths nodes n)) (map (node_with_digest F) (needed_ascending old_lengths nodes n))
