-- Lemmas for the proofs of the crates above, over public definitions alone.
use Rattle.std.proofs.Common.{◌≡◌, ℕ, suc, ◌+◌, ◌-◌, ◌*◌, ◌^◌, ◌<◌, ◌≤◌, List, [], ◌∷◌, ◌++◌, length, Option, Some, Ok, IsSome, slice_index_or, refl, sym, arith, ◌⊎◌, ◌↔◌, ◌≢◌, get_or}
use Rattle.std.specs.List.{AllByRecursion}
use Rattle.std.specs.Bool.{Decides}
use Rattle.std.specs.Fmt.{decimal}
use Rattle.warg_log.specs.declared.node.Node.{Node}
use Rattle.std.specs.Cmp.Lexicographic.{pointwise_decides}
use Rattle.std.proofs.lemmas.Bool.Decides.{Decides-eqb, Decides-and}
use Rattle.std.proofs.lemmas.Nat.{pow_pos}
use Rattle.warg_protobuf.proofs.ForCallers.{all_weaken}
use Rattle.warg_log.specs.Nodes.{IsNode, ExistsAt, height_of, place_of, end_of, node_over, balanced_over, balanced_roots, Follow}
use Rattle.warg_crypto.specs.Tree.{branch}
use Rattle.warg_log.specs.Ranges.{Range, leaves_from, front_part, rest_part, IsAligned}
use Rattle.warg_log.specs.Tree.{front_of, root_over, own_digest}
use Rattle.warg_log.specs.Cut.{Evaluation, with_own, is_target, joined, top_of, cut_over, cut_root, old_over, IsFull}
use Rattle.warg_log.specs.Walks.{IsKnown, needed, needed_between}
use Rattle.warg_log.specs.Consistency.{consistency, IsConsistent}
use Rattle.warg_log.specs.Inclusion.{inclusion}
use Rattle.warg_log.specs.Claims.{InclusionClaim, Walk, same_node, same_walk}
use Rattle.warg_log.proofs.DecimalLemmas as decimals
use Rattle.warg_log.proofs.NodeLemmas as nodes
use Rattle.warg_log.proofs.RootLemmas as powers
use Rattle.warg_log.proofs.BalancedLemmas as balanced
use Rattle.warg_log.proofs.WayLemmas as ways
use Rattle.warg_log.proofs.CutLemmas as cuts
use Rattle.warg_log.proofs.OrderLemmas as orders
use Rattle.warg_log.proofs.ReadLemmas as reads
use Rattle.warg_log.proofs.EvaluationLemmas as evaluations

-- a number is below its power of two
pub below_pow : (n : ℕ) → n < 2 ^ n
below_pow = powers.below_pow

-- a power of two below another has a smaller exponent
pub pow_below_pow : (a b : ℕ) → 2 ^ a < 2 ^ b → a < b
pow_below_pow = nodes.pow_below_pow

-- a range is known by where it starts and by its count
pub same_range : (r t : Range) → r.start ≡ t.start → r.count ≡ t.count → r ≡ t
same_range = ways.same_range

-- ranges that are one start at one leaf, and have one count
pub starts : {r t : Range} → r ≡ t → r.start ≡ t.start
starts = ways.starts

pub counts : {r t : Range} → r ≡ t → r.count ≡ t.count
counts = ways.counts

-- the range misses the target
abbrev pub IsBeside : Range → Range → Type 0
IsBeside t r = (r.start + r.count ≤ t.start) ⊎ (t.start + t.count ≤ r.start)

-- whether a range is the target
pub target_decides : (t r : Range) → Decides (is_target t r) (r ≡ t)
target_decides = ways.target_decides

-- a number is the node of one height and one place
pub node_at : (x k j : ℕ) → IsNode x k j → (height_of x ≡ k) × (place_of x ≡ j)
node_at = nodes.node_at

-- the number of a node that exists is at most that of the last leaf
pub existing_number : (x n : ℕ) → ExistsAt x n → x + 2 ≤ 2 * n
existing_number x n exists = omega (arith, nodes.node_is x, pow_pos)

-- the node over a range has the range's height and place
pub over_at : (k j : ℕ) → (height_of (node_over (j * 2 ^ k) (2 ^ k)) ≡ k)
    × (place_of (node_over (j * 2 ^ k) (2 ^ k)) ≡ j)
over_at = nodes.over_at

-- the front of a range is the greatest power of two below its count
pub front_is_greatest : (n : ℕ) → 1 < n → IsFull (front_of n) × (front_of n < n) × (n ≤ 2 * front_of n)
front_is_greatest n more = grind (arith, powers.front_is n more)

-- a power of two below a count whose double isn't below it is the front
pub front_of_is : (h n : ℕ) → 2 ^ h < n → n ≤ 2 ^ suc h → front_of n ≡ 2 ^ h
front_of_is = powers.front_of_is

-- the root over one leaf is its digest
pub root_over_one : (H : List ℕ → List ℕ) (ds : List (List ℕ)) (a : ℕ) → a < length ds → root_over H ds a 1
    ≡ slice_index_or ds a []
root_over_one = powers.root_over_one

-- the root over more leaves is the branch over those of the two parts
pub root_over_parts : (H : List ℕ → List ℕ) (ds : List (List ℕ)) (a n : ℕ) → 1 < n → a + n ≤ length ds
    → root_over H ds a n ≡ branch H (root_over H ds a (front_of n)) (root_over H ds (a + front_of n) (n - front_of n))
root_over_parts H ds a n more fits = grind (arith, powers.front_is n more, cuts.root_over_split)

-- the balanced root of a power of two of leaves is the node over them
pub balanced_full : (a n : ℕ) → IsFull n → balanced_over a n ≡ node_over a n ∷ []
balanced_full a n is = rw is.1 (balanced.balanced_full is.0 a)

-- the balanced roots of other leaves are the node over the first part and those of the rest
pub balanced_parts : (a n : ℕ) → 1 < n → (IsFull n → ⊥) → balanced_over a n ≡ node_over a (front_of n) ∷ balanced_over
    (a + front_of n) (n - front_of n)
balanced_parts a n more part =
    let f = powers.front_is n more in
    rw f.1 (balanced.balanced_first f.0 a n (omega arith) (grind arith))

-- the cut root of the target is the digest in its place
pub cut_target : (H : List ℕ → List ℕ) (e : Evaluation) → cut_over H e e.target ≡ Some e.digest
cut_target H e = grind (arith, cuts.cut_found)

-- the cut root of a range that isn't read is the branch over those of its parts
pub cut_parts : (H : List ℕ → List ℕ) (e : Evaluation) (r : Range) → 1 < r.count → (r ≡ e.target → ⊥)
    → (IsFull r.count → IsBeside e.target r → ⊥)
    → cut_over H e r ≡ joined H (cut_over H e (front_part r)) (cut_over H e (rest_part r))
cut_parts H e r more other apart = cuts.cut_over_parts H e r more other (grind arith)

-- the cut root of a range that misses the target is its old root
pub cut_old : (H : List ℕ → List ℕ) (e : Evaluation) (r : Range) → 0 < e.target.count → 0 < r.count
    → IsBeside e.target r → cut_over H e r ≡ old_over H e.held r
unfolding top_of
cut_old H e r target some = ways.ways_from e.target r.start
    (λ r way. IsBeside e.target r → top_of H e.held e.digest way ≡ old_over H e.held r)
    (record {
      target = λ leaves beside. absurd (omega arith);
      node = λ k c a _ _. sym
          (cuts.old_full H e.held (leaves_from a (2 ^ k)) (k, refl));
      parts = grind (arith, cuts.old_over-split);
    })
    r.count some

-- over a log's own digests the cut root of a range of its recursion is the root over it
pub cut_own_range : (H : List ℕ → List ℕ) (ds : List (List ℕ)) (t r : Range) → 0 < r.count → IsAligned r.start r.count
    → r.start + r.count ≤ length ds
    → cut_over H (with_own H ds t) r ≡ Some (root_over H ds r.start r.count)
cut_own_range H ds t r some aligned = search cuts.own_at

-- the old root of a power of two of leaves is the digest that is held for them
pub old_full : (H : List ℕ → List ℕ) (F : ℕ → Option (List ℕ)) (r : Range) → IsFull r.count
    → old_over H F r ≡ F (node_over r.start r.count)
old_full = cuts.old_full

-- the old root of other leaves is the branch over those of the two parts
pub old_parts : (H : List ℕ → List ℕ) (F : ℕ → Option (List ℕ)) (r : Range) → 1 < r.count → (IsFull r.count → ⊥)
    → old_over H F r ≡ joined H (old_over H F (front_part r)) (old_over H F (rest_part r))
old_parts = cuts.old_over_parts

-- over a log's own digests the old root of a range of its recursion is the root over it
pub old_own_range : (H : List ℕ → List ℕ) (ds : List (List ℕ)) (r : Range) → 0 < r.count → IsAligned r.start r.count
    → r.start + r.count ≤ length ds
    → old_over H (own_digest H ds) r ≡ Some (root_over H ds r.start r.count)
old_own_range H ds r some aligned = search cuts.own_at

-- an inclusion proof leads to a root exactly if its node exists and this is the cut root
pub inclusion_leads : (H : List ℕ → List ℕ) (F : ℕ → Option (List ℕ)) (p : InclusionClaim) (x root : List ℕ)
    → (inclusion H F p x ≡ Ok root) ↔ (ExistsAt p.leaf.0 p.log_length
    × (cut_root H F p.leaf.0 x p.log_length ≡ Some root))
inclusion_leads H F p x root = grind arith

-- a consistency proof evaluates to the roots that meet it alone
pub consistency_only : (H : List ℕ → List ℕ) (F : ℕ → Option (List ℕ)) (m n : ℕ) (old new : List ℕ)
    → consistency H F m n ≡ Ok (old, new) → IsConsistent H F m n old new
consistency_only = evaluations.consistency-only

-- a consistency proof evaluates to roots that meet it
pub consistency_then : (H : List ℕ → List ℕ) (F : ℕ → Option (List ℕ)) (m n : ℕ) (old new : List ℕ)
    → IsConsistent H F m n old new → consistency H F m n ≡ Ok (old, new)
consistency_then = evaluations.consistency-then

-- the needed nodes exist at the length
pub needed_exist : (t n : ℕ) → 0 < n → AllByRecursion (λ x. ExistsAt x n) (needed t n)
needed_exist t n some = grind (arith, all_weaken, orders.needed_within)

-- the balanced roots of a length exist at it
pub roots_exist : (n : ℕ) → AllByRecursion (λ t. end_of t ≤ n) (balanced_roots n)
roots_exist n = orders.roots_end n n (omega arith)

-- data that agree on the needed nodes have one cut root
pub same_cut : (H : List ℕ → List ℕ) (F G : ℕ → Option (List ℕ)) (x : List ℕ) (t n : ℕ)
    → AllByRecursion (λ y. F y ≡ G y) (needed t n) → cut_root H F t x n ≡ cut_root H G t x n
same_cut H F G x t n = reads.same_on H F G x _

-- and one consistency evaluation
pub same_consistency : (H : List ℕ → List ℕ) (F G : ℕ → Option (List ℕ)) (m n : ℕ)
    → AllByRecursion (λ y. F y ≡ G y) (needed_between m n) → consistency H F m n ≡ consistency H G m n
same_consistency = reads.same_consistency

-- nodes are compared by their numbers, and walks by their nodes and counts
pub nodes_decide : (m n : Node) → Decides (same_node m n) (m ≡ n)
nodes_decide m n = grind arith

pub walks_decide : (a b : Walk) → Decides (same_walk a b) (a ≡ b)
walks_decide a b =
    let walk = Decides-and _ _ (pointwise_decides nodes_decide a.nodes b.nodes)
    (Decides-eqb a.initial_walk_len b.initial_walk_len) in
    grind arith

-- data that hold more have the same old roots
pub old_more : (H : List ℕ → List ℕ) (F G : ℕ → Option (List ℕ)) → ((y : ℕ) (d : List ℕ) → F y ≡ Some d → G y ≡ Some d)
    → (r : Range) (d : List ℕ) → old_over H F r ≡ Some d → old_over H G r ≡ Some d
old_more H F G more r = reads.top_more H F G _ more _

-- the balanced roots of up to 2 ^ h leaves from a multiple of 2 ^ h on follow one another
pub over_follow : (h c n : ℕ) → n ≤ 2 ^ h → Follow (c * 2 ^ h) (c * 2 ^ h + n) (balanced_over (c * 2 ^ h) n)
over_follow = balanced.over_follow

-- a branch has a digest only where both its parts have one
pub joined_some : (H : List ℕ → List ℕ) (p q : Option (List ℕ)) → IsSome (joined H p q) → IsSome p × IsSome q
joined_some H p q = (reads.joined_known H p q).0

-- where each needed node's digest is known, so is the cut root
pub known_cut : (H : List ℕ → List ℕ) (F : ℕ → Option (List ℕ)) (x : List ℕ) (t n : ℕ) → IsKnown F (needed t n)
    → IsSome (cut_root H F t x n)
known_cut H F x t n = (reads.needed_exactly H F x _).0

-- what is known of two lists is known of each
pub known_parts : (F : ℕ → Option (List ℕ)) (xs ys : List ℕ) → IsKnown F (xs ++ ys) → IsKnown F xs × IsKnown F ys
known_parts F xs ys = (reads.known_append F xs ys).0

-- a number in decimal has digits alone
pub decimal_without : (n c i : ℕ) → n < 2 ^ 64 → (48 < c + 1 → c < 58 → ⊥) → i < length (decimal n)
    → get_or (decimal n) i 0 ≢ c
decimal_without = decimals.decimal_without
