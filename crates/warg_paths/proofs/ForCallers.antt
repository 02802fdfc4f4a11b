-- Lemmas for the proofs of the crates above, over public definitions alone.
use Rattle.std.proofs.Common.{◌≡◌, ℕ, ◌-◌, ◌*◌, ◌<◌, ◌≤◌, List, [], ◌∷◌, length, reverse, take, slice_index_or, Option, Some, None, IsSome}
use Rattle.std.specs.List.{flat_map}
use Rattle.warg_crypto.specs.Collisions.{AreHashes}
use Rattle.warg_crypto.specs.Tree.{branch_input, input_beside}
use Rattle.warg_log.specs.Ranges.{Range, leaves_from}
use Rattle.warg_log.specs.Tree.{front_of, root_of, own_digest}
use Rattle.warg_log.specs.Cut.{old_over}
use Rattle.warg_log.specs.Walks.{IsKnown, needed, needed_between}
use Rattle.warg_paths.specs.Paths.{inclusion_of, consistency_of, inclusion_root, root_down, roots_down, grown, both_over, led_to, led_to_both}
use Rattle.warg_paths.specs.Ways.{IsOnWay, turn_input, new_turn_input, is_right, leaf_in, count_in, start_in}
use Rattle.warg_paths.specs.Pieces.{hashes_of}
use Rattle.warg_paths.proofs.BytesLemmas as bytes
use Rattle.warg_paths.proofs.GrowthLemmas as growth
use Rattle.warg_paths.proofs.KnownLemmas as known
use Rattle.warg_paths.proofs.LawLemmas as leads
use Rattle.warg_paths.proofs.PathLemmas as paths
use Rattle.warg_paths.proofs.MakeLemmas as makes
use Rattle.warg_paths.proofs.TurnLemmas as turns

-- of one leaf, no digests lead to its own
pub root_one : (H : List ℕ → List ℕ) (m : ℕ) (x : List ℕ) (path : List (List ℕ)) → length path ≡ 0
    → root_down H m 1 x (reverse path) ≡ Some x
root_one = paths.root_one

-- of one leaf, any digests lead nowhere
pub root_long : (H : List ℕ → List ℕ) (m : ℕ) (x : List ℕ) (path : List (List ℕ)) → (length path ≡ 0 → ⊥)
    → root_down H m 1 x (reverse path) ≡ None
root_long = paths.root_long

-- of more leaves, no digests lead nowhere
pub root_short : (H : List ℕ → List ℕ) (m n : ℕ) (x : List ℕ) (path : List (List ℕ)) → 1 < n → length path ≡ 0
    → root_down H m n x (reverse path) ≡ None
root_short = paths.root_short

-- lengths that differ need a digest
pub both_short : (H : List ℕ → List ℕ) (old : Option (List ℕ)) (m n : ℕ) (path : List (List ℕ)) → m < n
    → length path ≡ 0 → roots_down H old m n (reverse path) ≡ None
both_short = paths.both_short

-- hashes, one after the other, have 32 bytes each, and are read as these
pub hashes_size : (ds : List (List ℕ)) → AreHashes ds → length (flat_map (λ d. d) ds) ≡ 32 * length ds
hashes_size = bytes.flat_size

pub hashes_back : (ds : List (List ℕ)) → AreHashes ds → hashes_of (flat_map (λ d. d) ds) ≡ Some ds
hashes_back = bytes.hashes_back

-- roots of more ranges make the same paths
pub inclusion_more : (R S : Range → Option (List ℕ)) → ((r : Range) (d : List ℕ) → R r ≡ Some d → S r ≡ Some d)
    → (m n : ℕ) (path : List (List ℕ)) → inclusion_of R m n ≡ Some path → inclusion_of S m n ≡ Some path
inclusion_more = makes.inclusion_more

pub consistency_more : (R S : Range → Option (List ℕ)) → ((r : Range) (d : List ℕ) → R r ≡ Some d → S r ≡ Some d)
    → (m n : ℕ) (path : List (List ℕ)) → consistency_of R m n ≡ Some path → consistency_of S m n ≡ Some path
consistency_more = makes.consistency_more

-- a log's own paths lead to its roots
pub own_inclusion_leads : (H : List ℕ → List ℕ) (ds : List (List ℕ)) (m n : ℕ) → m < n → n ≤ length ds
    → led_to H m n (slice_index_or ds m []) (inclusion_of (old_over H (own_digest H ds)) m n)
    ≡ Some (root_of H (take n ds))
own_inclusion_leads = leads.own_leads

pub own_consistency_leads : (H : List ℕ → List ℕ) (ds : List (List ℕ)) (m n : ℕ) → 0 < m → m ≤ n → n ≤ length ds
    → led_to_both H m n (root_of H (take m ds)) (consistency_of (old_over H (own_digest H ds)) m n)
    ≡ Some (root_of H (take m ds), root_of H (take n ds))
own_consistency_leads = growth.own_roots

-- whoever knows the digests that a proof needs has the path, and of a consistency proof the old root
pub inclusion_known : (H : List ℕ → List ℕ) (F : ℕ → Option (List ℕ)) (m n : ℕ) → m < n → IsKnown F (needed (2 * m) n)
    → IsSome (inclusion_of (old_over H F) m n)
inclusion_known = known.inclusion_known

pub consistency_known : (H : List ℕ → List ℕ) (F : ℕ → Option (List ℕ)) (m n : ℕ) → 0 < m → m ≤ n
    → IsKnown F (needed_between m n) → IsSome (consistency_of (old_over H F) m n)
consistency_known = known.consistency_known

pub old_root_known : (H : List ℕ → List ℕ) (F : ℕ → Option (List ℕ)) (m n : ℕ) → 0 < m → IsKnown F (needed_between m n)
    → IsSome (old_over H F (leaves_from 0 m))
old_root_known = known.old_root_known

-- a path that leads somewhere, from a place that is there
pub leads_inside : (H : List ℕ → List ℕ) (m n : ℕ) (x root : List ℕ) (path : List (List ℕ))
    → inclusion_root H m n x path ≡ Some root → (m < n) × (root_down H m n x (reverse path) ≡ Some root)
leads_inside = turns.leads_inside

pub inside_leads : (H : List ℕ → List ℕ) (m n : ℕ) (x : List ℕ) (path : List (List ℕ)) → m < n
    → inclusion_root H m n x path ≡ root_down H m n x (reverse path)
inside_leads = turns.inside_leads

-- where no digests are left, there is one leaf, and where some are, more
pub at_leaf : (H : List ℕ → List ℕ) (m n : ℕ) (x root : List ℕ) → root_down H m n x [] ≡ Some root
    → (n ≡ 1) × (x ≡ root)
at_leaf = turns.at_leaf

pub one_or_more : (H : List ℕ → List ℕ) (m n : ℕ) (x y root other top : List ℕ) (below : List (List ℕ))
    → root_down H m n x [] ≡ Some root → root_down H m n y (top ∷ below) ≡ Some other → ⊥
one_or_more = turns.one_or_more

-- a path leads by way of the part that has the leaf: the root there, and what is taken here
pub leads_up : (H : List ℕ → List ℕ) (m n : ℕ) (x top l : List ℕ) (below : List (List ℕ)) → 1 < n
    → root_down H (leaf_in m n) (count_in m n) x below ≡ Some l → root_down H m n x (top ∷ below)
    ≡ Some (H (input_beside (is_right m n) top l))
leads_up = turns.leads_up

pub led_down : (H : List ℕ → List ℕ) (m n : ℕ) (x root top : List ℕ) (below : List (List ℕ))
    → root_down H m n x (top ∷ below) ≡ Some root → (digest : List ℕ) × (1 < n)
    × (root_down H (leaf_in m n) (count_in m n) x below ≡ Some digest)
    × (H (input_beside (is_right m n) top digest) ≡ root)
led_down = turns.led_down

pub taken_at : (H : List ℕ → List ℕ) (m n : ℕ) (x top l : List ℕ) (below : List (List ℕ))
    → root_down H (leaf_in m n) (count_in m n) x below ≡ Some l → turn_input H x m n top below
    ≡ Some (input_beside (is_right m n) top l)
taken_at = turns.taken_at

-- the way goes on in the part that has the leaf
pub way_in : {m₀ a₀ n₀ m a n : ℕ} {ds₀ below : List (List ℕ)} {top : List ℕ} → 1 < n
    → IsOnWay m₀ a₀ n₀ ds₀ m a n (top ∷ below) → IsOnWay m₀ a₀ n₀ ds₀ (leaf_in m n) (start_in m a n)
    (count_in m n) below
way_in = turns.way_in

-- two roots are the same one by one
pub pair_parts : (p q : List ℕ × List ℕ) → Some p ≡ Some q → (p.0 ≡ q.0) × (p.1 ≡ q.1)
pair_parts = turns.pair_parts

-- where not all leaves are old, no roots are there without digests, and else those of a part
pub no_roots : (H : List ℕ → List ℕ) (known : Option (List ℕ)) (m n : ℕ) (roots : List ℕ × List ℕ) → m < n
    → roots_down H known m n [] ≡ Some roots → ⊥
no_roots = turns.no_roots

pub front_turn : (H : List ℕ → List ℕ) (known : Option (List ℕ)) (m n : ℕ) (top : List ℕ) (below : List (List ℕ))
    → m < n → m ≤ front_of n → roots_down H known m n (top ∷ below) ≡ grown H
    (roots_down H known m (front_of n) below) top
front_turn = turns.front_turn

pub rest_turn : (H : List ℕ → List ℕ) (known : Option (List ℕ)) (m n : ℕ) (top : List ℕ) (below : List (List ℕ))
    → m < n → front_of n < m
    → roots_down H known m n (top ∷ below) ≡ both_over H top (roots_down H None (m - front_of n) (n - front_of n) below)
rest_turn = turns.rest_turn

pub grown_is : (H : List ℕ → List ℕ) (below : Option (List ℕ × List ℕ)) (top o w : List ℕ) → grown H below top
    ≡ Some (o, w) → (x : List ℕ) × (below ≡ Some (o, x)) × (H (branch_input x top) ≡ w)
grown_is = turns.grown_is

pub over_is : (H : List ℕ → List ℕ) (below : Option (List ℕ × List ℕ)) (top o w : List ℕ) → both_over H top below
    ≡ Some (o, w)
    → (y : List ℕ) × (x : List ℕ) × (below ≡ Some (y, x)) × (H (branch_input top y) ≡ o) × (H (branch_input top x) ≡ w)
over_is = turns.over_is

-- what is taken at a range for the new root
pub front_takes : (H : List ℕ → List ℕ) (known : Option (List ℕ)) (m n : ℕ) (top : List ℕ) (below : List (List ℕ))
    (o x : List ℕ) → m ≤ front_of n → roots_down H known m (front_of n) below ≡ Some (o, x)
    → new_turn_input H known m n top below ≡ Some (branch_input x top)
front_takes = turns.front_takes

pub rest_takes : (H : List ℕ → List ℕ) (known : Option (List ℕ)) (m n : ℕ) (top : List ℕ) (below : List (List ℕ))
    (o x : List ℕ) → front_of n < m → roots_down H None (m - front_of n) (n - front_of n) below ≡ Some (o, x)
    → new_turn_input H known m n top below ≡ Some (branch_input top x)
rest_takes = turns.rest_takes
