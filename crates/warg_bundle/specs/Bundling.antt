-- The bundle of some proofs, with the digests that they need.
use Rattle.std.specs.Prelude.{◌≡◌, ℕ, ◌*◌, ◌^◌, ◌==◌, nat_eq, nat_lt, nat_le, if◌then◌else◌, List, [], ◌∷◌, ◌++◌, map, filter, Option, Some, None, is_some, unwrap_or, Result, Ok, Err}
use Rattle.std.specs.List.{AllByRecursion, flat_map, list_any, range_with_len}
use Rattle.warg_protobuf.specs.Reading.{◌>>=◌}
use Rattle.warg_log.specs.declared.node.Node.{Node}
use Rattle.warg_log.specs.declared.proof.InclusionProofError.TheVariants as inclusion
use Rattle.warg_log.specs.declared.consistency.ConsistencyProofError.TheVariants as between
use Rattle.warg_bundle.specs.declared.log.error.BundleError.{BundleError}
use Rattle.warg_bundle.specs.declared.log.error.BundleError.TheVariants.{Consistency, Inclusion, DifferentRoots, NoProofs, TooLarge, HashNotFound}
use Rattle.warg_log.specs.Nodes.{end_of}
use Rattle.warg_log.specs.Walks.{needed, needed_between}
use Rattle.warg_log.specs.Cut.{cut_root}
use Rattle.warg_log.specs.Consistency.{consistency}
use Rattle.warg_log.specs.Claims.{InclusionClaim, ConsistencyClaim}
use Rattle.warg_log.specs.Sparse.{held_digest}
use Rattle.warg_bundle.specs.LogBundles.{Bundle, bundle_of}
use Rattle.warg_protobuf.specs.Decoding.{unless, earlier, first_fault}

-- The nodes that proofs at length n need: consistency proofs from these old lengths, and inclusion proofs
-- of these nodes.
abbrev pub needed_by : List ℕ → List Node → ℕ → List ℕ
needed_by old_lengths nodes n = flat_map (λ m. needed_between m n) old_lengths ++ flat_map (λ (node : Node). needed node.0 n) nodes

-- The needed nodes ascending, each once: of the numbers below twice the length, those that are needed.
abbrev pub needed_ascending : List ℕ → List Node → ℕ → List ℕ
needed_ascending old_lengths nodes n = filter (λ x. list_any (nat_eq x) (needed_by old_lengths nodes n)) (range_with_len 0 (2 * n))

-- The fault of a consistency proof in a bundle of proofs at length n.
abbrev pub consistency_fault : ℕ → ConsistencyClaim → Option BundleError
consistency_fault n p =
    if nat_lt p.new_length p.old_length
    then Some (Consistency between.PointsOutOfOrder)
    else if p.new_length == n then None else Some DifferentRoots

-- The fault of an inclusion proof in a bundle of proofs at length n.
abbrev pub inclusion_fault : ℕ → InclusionClaim → Option BundleError
inclusion_fault n p =
    if p.log_length == n
    then if nat_le (end_of p.leaf.0) n then None else Some (Inclusion inclusion.LeafTooNew)
    else Some DifferentRoots

-- The fault of a length that doesn't fit in the 32 bits of a message.
abbrev pub length_fault : ℕ → Option BundleError
length_fault n = if nat_lt n (2 ^ 32) then None else Some TooLarge

-- The length of the first proof, consistency proofs before inclusion proofs.
abbrev pub first_length : List ConsistencyClaim → List InclusionClaim → Result ℕ BundleError
first_length (c ∷ cs) ps = Ok c.new_length
first_length [] (p ∷ ps) = Ok p.log_length
first_length [] [] = Err NoProofs

-- The first fault of proofs in a bundle at length n.
abbrev pub proofs_fault : ℕ → List ConsistencyClaim → List InclusionClaim → Option BundleError
proofs_fault n cs ps = earlier (first_fault (consistency_fault n) cs) (earlier (first_fault (inclusion_fault n) ps) (length_fault n))

-- The one length of the proofs of a bundle, or their first fault.
abbrev pub bundle_length : List ConsistencyClaim → List InclusionClaim → Result ℕ BundleError
bundle_length cs ps = first_length cs ps >>= (λ n. unless (proofs_fault n cs ps) n)

-- The fault of a node whose digest F lacks.
abbrev pub node_fault : (ℕ → Option (List ℕ)) → ℕ → Option BundleError
node_fault F x = if is_some (F x) then None else Some HashNotFound

-- A node with the digest that F has for it.
abbrev pub node_with_digest : (ℕ → Option (List ℕ)) → ℕ → Node × List ℕ
node_with_digest F x = (record { 0 = x }, unwrap_or (F x) [])

-- The bundle of proofs at length n with their needed nodes' digests, or that F lacks one.
abbrev pub bundle_at : (ℕ → Option (List ℕ)) → List ℕ → List Node → ℕ → Result Bundle BundleError
bundle_at F old_lengths nodes n = unless (first_fault (node_fault F) (needed_ascending old_lengths nodes n)) (record {
  log_length = n;
  consistent_lengths = old_lengths;
  included_nodes = nodes;
  hashes = map (node_with_digest F) (needed_ascending old_lengths nodes n);
})

-- The bundle of these proofs with the digests of F that they need, or the first fault.
abbrev pub bundled : (ℕ → Option (List ℕ)) → List ConsistencyClaim → List InclusionClaim → Result Bundle BundleError
bundled F cs ps = bundle_length cs ps >>= bundle_at F (map (λ p. p.old_length) cs) (map (λ p. p.leaf) ps)

-- The bytes spell the bundle of these proofs with the digests of F that they need.
pub record SpellsBundle (F : ℕ → Option (List ℕ)) (cs : List ConsistencyClaim) (ps : List InclusionClaim) (bytes : List ℕ) : Type 0 where
  pub bundle : Bundle
  pub is : bundled F cs ps ≡ Ok bundle
  pub spells : bundle_of bytes ≡ Ok bundle

-- The bundle has a digest for exactly the nodes that its proofs need.
abbrev pub HoldsNeeded : Bundle → Type 0
HoldsNeeded b = (x : ℕ) → list_any (nat_eq x) (map (λ p. p.0.0) b.hashes) ≡ list_any (nat_eq x) (needed_by b.consistent_lengths b.included_nodes b.log_length)

-- The bundle's inclusion proofs have over its own digests the cut roots that they have over F, whatever
-- digest stands in the node's place.
abbrev pub IncludesAs : (List ℕ → List ℕ) → (ℕ → Option (List ℕ)) → Bundle → Type 0
IncludesAs H F b = (x : List ℕ) → AllByRecursion (λ (node : Node). cut_root H (held_digest b.hashes) node.0 x b.log_length ≡ cut_root H F node.0 x b.log_length) b.included_nodes

-- The bundle's consistency proofs evaluate over its own digests to what they evaluate to over F.
abbrev pub IsConsistentAs : (List ℕ → List ℕ) → (ℕ → Option (List ℕ)) → Bundle → Type 0
IsConsistentAs H F b = AllByRecursion (λ m. consistency H (held_digest b.hashes) m b.log_length ≡ consistency H F m b.log_length) b.consistent_lengths
