-- The one length of proofs, and the nodes that they need.
use Rattle.std.proofs.Common.{◌≡◌, ℕ, zero, suc, ◌+◌, ◌*◌, ◌<◌, ◌≤◌, ◌==◌, Bool, true, false, nat_eq, nat_lt, nat_le, List, [], ◌∷◌, ◌++◌, length, map, get_or, Option, Some, None, Result, Ok, Err, refl, sym, ap, ◌∙◌, arith, ⊎_elim}
use Rattle.std.specs.Prelude.{OnOk, IsPermutation, filter, is_some, unwrap_or, if◌then◌else◌}
use Rattle.std.specs.List.{AllByRecursion, IsDistinct, flat_map, list_any, range_with_len}
use Rattle.std.specs.List.Sorted.{IsSorted}
use Rattle.std.specs.Ordering.{nat_cmp}
use Rattle.std.proofs.lemmas.Map.Keys.{sorted_from_strictly_increasing, IsStrictlyIncreasing-from_distinct, below_from_sorted}
use Rattle.std.proofs.lemmas.Map.Views.{any-filter_same}
use Rattle.std.proofs.lemmas.List.Sorted.{IsNonDecreasingBy-from_sort, list_any-IsPermutation}
use Rattle.std.proofs.Math.Bool.{or_assoc}
use Rattle.std.proofs.lemmas.List.{length-map, get_or-map}
use Rattle.std.proofs.lemmas.List.Elements.{All-from_recursion}
use Rattle.std.proofs.lemmas.List.Folds.{list_any_at, list_any-append}
use Rattle.std.proofs.lemmas.List.FromFn.{length-range_with_len, get_or-range_with_len}
use Rattle.std.proofs.lemmas.Bool.{eq-eqb, eqb-true, ne_eqb, ltb-false, leb-true, or_left, or_right, cases_Bool, cases_lt}
use Rattle.warg_log.specs.declared.node.Node.{Node}
use Rattle.warg_bundle.specs.declared.log.error.BundleError.{BundleError}
use Rattle.warg_bundle.specs.declared.log.error.BundleError.TheVariants.{HashNotFound}
use Rattle.warg_log.specs.Nodes.{ExistsAt, end_of, balanced_roots}
use Rattle.warg_log.specs.Walks.{needed, needed_between}
use Rattle.warg_log.specs.Sparse.{IsAscending}
use Rattle.warg_log.specs.Claims.{InclusionClaim, ConsistencyClaim}
use Rattle.warg_bundle.specs.LogBundles.{Bundle}
use Rattle.warg_protobuf.specs.Decoding.{unless, first_fault}
use Rattle.warg_bundle.specs.Bundling.{needed_by, needed_ascending, consistency_fault, inclusion_fault, first_length, proofs_fault, bundle_length, node_fault, node_with_digest, bundle_at, bundled, HoldsNeeded}
use Rattle.warg_bundle.specs.Private.Unions.{IsUnion, IsCollected}
use Rattle.warg_bundle.specs.Private.Needed.{digests_at}
use Rattle.warg_protobuf.specs.Reading.{◌>>=◌}
use Rattle.warg_protobuf.proofs.ForCallers.{all_append, all_weaken}
use Rattle.warg_protobuf.proofs.ForCallers.{both_none, all_without, no_fault}
use Rattle.warg_log.proofs.ForCallers.{existing_number, needed_exist, roots_exist}

-- ---- the one length

consistency_good : (n : ℕ) (p : ConsistencyClaim) → consistency_fault n p ≡ None → (p.old_length ≤ p.new_length)
    × (p.new_length ≡ n)
consistency_good n p none = ⊎_elim
    (λ (before : nat_lt p.new_length p.old_length ≡ true). absurd (let e = rw before at none in cc))
    (λ (after : nat_lt p.new_length p.old_length ≡ false). ⊎_elim
    (λ (same : (p.new_length == n) ≡ true). (ltb-false p.new_length p.old_length after, eqb-true p.new_length n same))
    (λ (other : (p.new_length == n) ≡ false). absurd (let e = rw (after, other) at none in cc))
    (cases_Bool (p.new_length == n)))
    (cases_Bool (nat_lt p.new_length p.old_length))

pub consistencies_good : (n : ℕ) (cs : List ConsistencyClaim) → first_fault (consistency_fault n) cs ≡ None
    → AllByRecursion (λ (p : ConsistencyClaim). (p.old_length ≤ p.new_length) × (p.new_length ≡ n)) cs
consistencies_good n = all_without (consistency_fault n) _ (consistency_good n)

inclusion_good : (n : ℕ) (p : InclusionClaim) → inclusion_fault n p ≡ None → ExistsAt p.leaf.0 p.log_length
    × (p.log_length ≡ n)
inclusion_good n p none = ⊎_elim
    (λ (same : (p.log_length == n) ≡ true). let e : p.log_length ≡ n = eqb-true p.log_length n same in ⊎_elim
    (λ (exists : nat_le (end_of p.leaf.0) n ≡ true). (rw e (leb-true (end_of p.leaf.0) n exists), e))
    (λ (new : nat_le (end_of p.leaf.0) n ≡ false). absurd (let f = rw (same, new) at none in cc))
    (cases_Bool (nat_le (end_of p.leaf.0) n)))
    (λ (other : (p.log_length == n) ≡ false). absurd (let f = rw other at none in cc))
    (cases_Bool (p.log_length == n))

pub inclusions_good : (n : ℕ) (ps : List InclusionClaim) → first_fault (inclusion_fault n) ps ≡ None
    → AllByRecursion (λ (p : InclusionClaim). ExistsAt p.leaf.0 p.log_length × (p.log_length ≡ n)) ps
inclusions_good n = all_without (inclusion_fault n) _ (inclusion_good n)

-- a length that the proofs have
pub length_is : (cs : List ConsistencyClaim) (ps : List InclusionClaim) (n : ℕ) (faults : Option BundleError)
    → first_length cs ps ≡ Ok n → proofs_fault n cs ps ≡ faults → bundle_length cs ps ≡ unless faults n
length_is cs ps n faults first fault = rw (first, fault) refl

pub length_good : (cs : List ConsistencyClaim) (ps : List InclusionClaim) (n : ℕ) → bundle_length cs ps ≡ Ok n
    → (first_fault (consistency_fault n) cs ≡ None) × (first_fault (inclusion_fault n) ps ≡ None)
length_good cs ps n is = good (first_length cs ps) is
  where
    good : (first : Result ℕ BundleError) → (first >>= (λ m. unless (proofs_fault m cs ps) m)) ≡ Ok n
        → (first_fault (consistency_fault n) cs ≡ None) × (first_fault (inclusion_fault n) ps ≡ None)
    good (Err e) is = absurd (cc)
    good (Ok m) is =
        let p = no_fault (proofs_fault m cs ps) m n is in
        let q = both_none (first_fault (consistency_fault m) cs) _ p.0 in
        let r = both_none (first_fault (inclusion_fault m) ps) _ q.1 in
        rw (← p.1) (q.0, r.0)

-- ---- the balanced roots of an old length

pub root_exists : {X : Type 0} (leaf : X → Node) (len : X → ℕ) (xs : List X) (m n i : ℕ) (x : X)
    → map (λ p. (leaf p).0) xs ≡ balanced_roots m → AllByRecursion (λ p. len p ≡ n) xs
    → m ≤ n → i < length xs → x ≡ get_or xs i x → ExistsAt (leaf x).0 (len x)
root_exists leaf len xs m n i x e all le lt is =
    let exist : AllByRecursion (λ t. end_of t ≤ m) (map (λ p. (leaf p).0) xs) = rw e (roots_exist m) in
    let low = rw (get_or-map (λ p. (leaf p).0) xs i x 0 lt) at
    (All-from_recursion (λ t. end_of t ≤ m) (map (λ p. (leaf p).0) xs) exist i 0 (rw length-map lt)) in
    rw is (omega (arith, low, All-from_recursion (λ p. len p ≡ n) xs all i x lt))

-- what is the same for each element is the same joined
joined_same : {X Y : Type 0} (g : X → List ℕ) (h : Y → List ℕ) (f : X → Y) (P : X → Type 0)
    → ((x : X) → P x → g x ≡ h (f x))
    → (xs : List X) → AllByRecursion P xs → flat_map g xs ≡ flat_map h (map f xs)
joined_same g h f P same [] all = refl
joined_same g h f P same (x ∷ xs) all = rw (same x all.0, joined_same g h f P same xs all.1) refl

pub needed_all : {X : Type 0} (leaf : X → Node) (len : X → ℕ) (n : ℕ) (xs : List X) (ts : List ℕ)
    → map (λ p. (leaf p).0) xs ≡ ts → AllByRecursion (λ p. len p ≡ n) xs
    → flat_map (λ p. (leaf p).0 ∷ needed (leaf p).0 (len p)) xs ≡ flat_map (λ t. t ∷ needed t n) ts
needed_all leaf len n xs ts e all =
    joined_same _ (λ t. t ∷ needed t n) (λ p. (leaf p).0) (λ p. len p ≡ n)
    (λ p same. ap (λ i. (leaf p).0 ∷ needed (leaf p).0 i) same) xs all ∙ ap (flat_map (λ t. t ∷ needed t n)) e

-- ---- ascending numbers

Rises : List ℕ → Type 0
Rises [] = Unit {0}
Rises (x ∷ xs) = AllByRecursion (λ y. x < y) xs × Rises xs

rises_by_steps : (xs : List ℕ) → ((k : ℕ) → suc k < length xs → get_or xs k 0 < get_or xs (suc k) 0) → Rises xs
unfolding Rises
rises_by_steps [] steps = tt
rises_by_steps (x ∷ []) steps = (tt, tt)
rises_by_steps (x ∷ y ∷ xs) steps =
    let rest : Rises (y ∷ xs) = rises_by_steps (y ∷ xs) (λ k lt. steps (suc k) (omega arith)) in
    let lt : x < y = steps 0 (omega arith) in
    ((lt, all_weaken (λ z. y < z) (λ z. x < z) (λ z above. omega arith) xs rest.0), rest)

rises : (xs : List ℕ) → IsSorted nat_cmp xs → IsDistinct nat_eq xs → Rises xs
rises xs sorted once =
    let strict = sorted_from_strictly_increasing xs
    (IsStrictlyIncreasing-from_distinct xs (IsNonDecreasingBy-from_sort (λ x. x) xs sorted) once) in
    rises_by_steps xs (λ k lt. below_from_sorted xs k (suc k) 0 strict (omega arith) lt)

numbers_of : (F : ℕ → Option (List ℕ)) (xs : List ℕ) → map (λ (p : Node × List ℕ). p.0.0) (map (node_with_digest F) xs)
    ≡ xs
numbers_of F [] = refl
numbers_of F (x ∷ xs) = rw (numbers_of F xs) refl

above : (F : ℕ → Option (List ℕ)) (x : ℕ) (xs : List ℕ) → AllByRecursion (λ y. x < y) xs
    → AllByRecursion (λ (p : Node × List ℕ). x < p.0.0) (map (node_with_digest F) xs)
above F x [] all = tt
above F x (y ∷ ys) all = (all.0, above F x ys all.1)

pairs_ascend : (F : ℕ → Option (List ℕ)) (xs : List ℕ) → Rises xs → IsAscending (map (node_with_digest F) xs)
unfolding Rises
pairs_ascend F [] up = tt
pairs_ascend F (x ∷ xs) up = (above F x xs up.0, pairs_ascend F xs up.1)

pub ascending_pairs : (F : ℕ → Option (List ℕ)) (xs : List ℕ) → IsSorted nat_cmp xs → IsDistinct nat_eq xs
    → IsAscending (map (node_with_digest F) xs)
ascending_pairs F xs sorted once = pairs_ascend F xs (rises xs sorted once)

-- ---- what a test leaves of a range

none_at : (z : ℕ) (xs : List ℕ) → AllByRecursion (λ x. z < x) xs → list_any (nat_eq z) xs ≡ false
none_at z [] all = refl
none_at z (x ∷ xs) all = let less : z < x = all.0 in rw (ne_eqb z x (λ e. omega arith)) (none_at z xs all.1)

left_of_range : (test : ℕ → Bool) (a n : ℕ) → AllByRecursion (λ x. a ≤ x) (filter test (range_with_len a n))
    × Rises (filter test (range_with_len a n))
unfolding Rises
left_of_range test a zero = (tt, tt)
left_of_range test a (suc n) =
    let rest = left_of_range test (a + 1) n in
    let later : AllByRecursion (λ x. a < x) (filter test (range_with_len (a + 1) n)) = all_weaken (λ x. a + 1 ≤ x)
    (λ x. a < x) (λ x le. omega (arith, le)) _ rest.0 in
    let from_here = all_weaken (λ x. a < x) (λ x. a ≤ x) (λ x lt. omega (arith, lt)) _ later in
    ⊎_elim
    (λ (t : test a ≡ true). rw t ((omega arith, from_here), (later, rest.1)))
    (λ (t : test a ≡ false). rw t (from_here, rest.1))
    (cases_Bool (test a))

-- numbers that rise are what a test for them leaves of a range that they lie in
filtered : (test : ℕ → Bool) (a n : ℕ) (xs : List ℕ) → Rises xs → AllByRecursion (λ x. a ≤ x) xs
    → AllByRecursion (λ x. x < a + n) xs
    → ((z : ℕ) → a ≤ z → test z ≡ list_any (nat_eq z) xs) → filter test (range_with_len a n) ≡ xs
unfolding Rises
filtered test a zero [] up low high is = refl
filtered test a zero (x ∷ xs) up low high is = let l : a ≤ x = low.0 in let h : x < a + zero = high.0 in
    absurd (omega arith)
filtered test a (suc n) [] up low high is =
    let out : test a ≡ false = is a (omega arith) in
    rw out (filtered test (a + 1) n [] tt tt tt (λ z le. is z (omega arith)))
filtered test a (suc n) (x ∷ xs) up low high is =
    let high' : AllByRecursion (λ y. y < a + 1 + n) (x ∷ xs) = all_weaken (λ y. y < a + suc n) (λ y. y < a + 1 + n)
    (λ y lt. omega (arith, lt)) (x ∷ xs) high in
    ⊎_elim
    (λ (less : a < x).
    let above : AllByRecursion (λ y. a < y) (x ∷ xs) =
    (less, all_weaken (λ y. x < y) (λ y. a < y) (λ y lt. omega (arith, lt)) xs up.0) in
    let out : test a ≡ false = is a (omega arith) ∙ none_at a (x ∷ xs) above in
    rw out (filtered test (a + 1) n (x ∷ xs) up (all_weaken (λ y. a < y) (λ y. a + 1 ≤ y) (λ y lt. omega (arith, lt))
    (x ∷ xs) above) high' (λ z le. is z (omega arith))))
    (λ (here : x ≤ a).
    let l : a ≤ x = low.0 in
    let same : a ≡ x = omega arith in
    let inside : test a ≡ true = is a (omega arith) ∙ rw (eq-eqb a x same) refl in
    let rest : filter test (range_with_len (a + 1) n) ≡ xs = filtered test (a + 1) n xs up.1
    (all_weaken (λ y. x < y) (λ y. a + 1 ≤ y) (λ y lt. omega (arith, lt)) xs up.0) high'.1
    (λ z le. is z (omega arith) ∙ rw (ne_eqb z x (λ e. omega arith)) refl) in
    rw inside (rw (rest, same) refl))
    (cases_lt a x)

pub among : (P : ℕ → Type 0) (x : ℕ) (xs : List ℕ) → AllByRecursion P xs → list_any (nat_eq x) xs ≡ true → P x
among P x [] all there = absurd (cc there)
among P x (y ∷ ys) all there = ⊎_elim
    (λ (t : nat_eq x y ≡ true). rw (eqb-true x y t) all.0)
    (λ (t : nat_eq x y ≡ false). among P x ys all.1 (rw t at there))
    (cases_Bool (nat_eq x y))

pub all_among : (P : ℕ → Type 0) (xs : List ℕ) → ((x : ℕ) → list_any (nat_eq x) xs ≡ true → P x) → AllByRecursion P xs
all_among P [] each = tt
all_among P (x ∷ xs) each = (
  each x (or_left (nat_eq x x) _ (eq-eqb x x refl)),
  all_among P xs (λ y there. each y (or_right (nat_eq y x) _ there)),
)

-- what a test for some numbers leaves of a range that they lie in holds these numbers
left_are : (ys : List ℕ) (n : ℕ) → AllByRecursion (λ y. y < n) ys → (x : ℕ)
    → list_any (nat_eq x) (filter (λ y. list_any (nat_eq y) ys) (range_with_len 0 n)) ≡ list_any (nat_eq x) ys
left_are ys n below x =
    any-filter_same (nat_eq x) (λ y. list_any (nat_eq y) ys) (list_any (nat_eq x) ys)
    (λ y same. let e : x ≡ y = eqb-true x y same in rw e refl) (range_with_len 0 n)
    ∙ ⊎_elim
    (λ (t : list_any (nat_eq x) ys ≡ true).
    let lt : x < n = among (λ y. y < n) x ys below t in
    let len : length (range_with_len 0 n) ≡ n = length-range_with_len 0 n in
    let here : get_or (range_with_len 0 n) x 0 ≡ 0 + x = get_or-range_with_len 0 n x 0 lt in
    rw (t, list_any_at (nat_eq x) (range_with_len 0 n) x 0 (omega arith) (eq-eqb x _ (omega arith))) refl)
    (λ (t : list_any (nat_eq x) ys ≡ false). rw t refl)
    (cases_Bool (list_any (nat_eq x) ys))

-- ---- the nodes that all the proofs need

-- numbers that were added to none and then sorted
pub collected : {X E : Type 0} (added sorted these : List ℕ) (result : Result X E) → IsUnion [] added these
    → OnOk result (IsSorted nat_cmp sorted) → IsPermutation added sorted → IsDistinct nat_eq sorted
    → OnOk result (IsCollected sorted these)
collected added sorted these (Err e) union up same once = tt
collected added sorted these (Ok x) union up same once =
    record {
      needed = λ x. sym (list_any-IsPermutation (nat_eq x) added sorted same) ∙ union x;
      sorted = up;
      once = once;
    }

-- numbers added, and then others
added : (old mid new xs ys : List ℕ) → IsUnion old mid xs → IsUnion mid new ys → IsUnion old new (xs ++ ys)
added old mid new xs ys first second x = second x ∙ rw (first x, list_any-append (nat_eq x) xs ys)
    (or_assoc (list_any (nat_eq x) old) (list_any (nat_eq x) xs) (list_any (nat_eq x) ys))

pub added_both : (none mid new xs ys : List ℕ) → none ≡ [] → IsUnion none mid xs → IsUnion mid new ys
    → IsUnion [] new (xs ++ ys)
added_both none mid new xs ys is first second = rw is at (added none mid new xs ys first second)

-- what is added for all proofs is what they need
needed_exactly_by : {X Y : Type 0} (P : X → Type 0) (Q : Y → Type 0) (old new : X → ℕ) (leaf : Y → Node) (len : Y → ℕ)
    (n : ℕ) (xs : List X) (ys : List Y) (keys : List ℕ)
    → IsUnion [] keys (flat_map (λ p. needed_between (old p) (new p)) xs ++ flat_map (λ p. needed (leaf p).0 (len p))
    ys)
    → AllByRecursion (λ p. P p × (new p ≡ n)) xs → AllByRecursion (λ p. Q p × (len p ≡ n)) ys
    → (x : ℕ) → list_any (nat_eq x) keys ≡ list_any (nat_eq x) (needed_by (map old xs) (map leaf ys) n)
needed_exactly_by P Q old new leaf len n xs ys keys adds all_x all_y x =
    let consistent = joined_same _ (λ m. needed_between m n) old (λ p. P p × (new p ≡ n))
    (λ p q. ap (needed_between (old p)) q.1) xs all_x in
    let included = joined_same _ (λ (node : Node). needed node.0 n) leaf (λ p. Q p × (len p ≡ n))
    (λ p q. ap (needed (leaf p).0) q.1) ys all_y in
    rw (adds x, consistent, included) refl

-- ---- they are numbers below twice the length

pub all_flat : {X : Type 0} (P : ℕ → Type 0) (Q : X → Type 0) (f : X → List ℕ)
    → ((x : X) → Q x → AllByRecursion P (f x)) → (xs : List X) → AllByRecursion Q xs → AllByRecursion P (flat_map f xs)
all_flat P Q f each [] all = tt
all_flat P Q f each (x ∷ xs) all = all_append P (f x) _ (each x all.0) (all_flat P Q f each xs all.1)

exists_below : (n x : ℕ) → ExistsAt x n → x < 2 * n
exists_below n x exists = omega (arith, existing_number x n exists)

needed_below : (n t : ℕ) → ExistsAt t n → AllByRecursion (λ x. x < 2 * n) (needed t n)
needed_below n t exists = all_weaken (λ x. ExistsAt x n) (λ x. x < 2 * n) (exists_below n) _
    (needed_exist t n (let lt = exists_below n t exists in omega arith))

between_below : (n m : ℕ) → m ≤ n → AllByRecursion (λ x. x < 2 * n) (needed_between m n)
between_below n m le = all_flat (λ x. x < 2 * n) (λ t. end_of t ≤ m) (λ t. t ∷ needed t n)
    (λ t exists. let exists' : ExistsAt t n = omega (arith, exists) in
    (exists_below n t exists', needed_below n t exists')) (balanced_roots m) (roots_exist m)

pub all_mapped : {X Y : Type 0} (P : Y → Type 0) (f : X → Y) (xs : List X) → AllByRecursion (λ x. P (f x)) xs
    → AllByRecursion P (map f xs)
all_mapped P f [] all = tt
all_mapped P f (x ∷ xs) all = (all.0, all_mapped P f xs all.1)

pub all_below : (cs : List ConsistencyClaim) (ps : List InclusionClaim) (n : ℕ) → bundle_length cs ps ≡ Ok n
    → AllByRecursion (λ x. x < 2 * n) (needed_by (map (λ (p : ConsistencyClaim). p.old_length) cs)
    (map (λ (p : InclusionClaim). p.leaf) ps) n)
all_below cs ps n is =
    let good = length_good cs ps n is in
    all_append (λ x. x < 2 * n) (flat_map (λ m. needed_between m n) (map (λ (p : ConsistencyClaim). p.old_length) cs)) _
    (all_flat (λ x. x < 2 * n) (λ m. m ≤ n) (λ m. needed_between m n) (between_below n) _
    (all_mapped (λ m. m ≤ n) (λ (p : ConsistencyClaim). p.old_length) cs
    (all_weaken _ (λ (p : ConsistencyClaim). p.old_length ≤ n) (λ p q. omega (arith, q.0, q.1)) cs
    (consistencies_good n cs good.0))))
    (all_flat (λ x. x < 2 * n) (λ (node : Node). ExistsAt node.0 n) (λ (node : Node). needed node.0 n)
    (λ node. needed_below n node.0) _
    (all_mapped (λ (node : Node). ExistsAt node.0 n) (λ (p : InclusionClaim). p.leaf) ps
    (all_weaken _ (λ (p : InclusionClaim). ExistsAt p.leaf.0 n) (λ p q. rw (← q.1) q.0) ps
    (inclusions_good n ps good.1))))

-- and those of nodes that exist at the length
pub all_exist : (cs : List ConsistencyClaim) (ps : List InclusionClaim) (n : ℕ) → bundle_length cs ps ≡ Ok n
    → AllByRecursion (λ x. ExistsAt x n) (needed_by (map (λ (p : ConsistencyClaim). p.old_length) cs)
    (map (λ (p : InclusionClaim). p.leaf) ps) n)
all_exist cs ps n is =
    let good = length_good cs ps n is in
    all_append (λ x. ExistsAt x n)
    (flat_map (λ m. needed_between m n) (map (λ (p : ConsistencyClaim). p.old_length) cs)) _
    (all_flat (λ x. ExistsAt x n) (λ m. m ≤ n) (λ m. needed_between m n)
    (λ m le. all_flat (λ x. ExistsAt x n) (λ t. end_of t ≤ m) (λ t. t ∷ needed t n)
    (λ t exists. let exists' : ExistsAt t n = omega (arith, exists) in
    (exists', needed_exist t n (let lt = exists_below n t exists' in omega arith))) (balanced_roots m)
    (roots_exist m)) _
    (all_mapped (λ m. m ≤ n) (λ (p : ConsistencyClaim). p.old_length) cs
    (all_weaken _ (λ (p : ConsistencyClaim). p.old_length ≤ n) (λ p q. omega (arith, q.0, q.1)) cs
    (consistencies_good n cs good.0))))
    (all_flat (λ x. ExistsAt x n) (λ (node : Node). ExistsAt node.0 n) (λ (node : Node). needed node.0 n)
    (λ node exists. needed_exist node.0 n (let lt = exists_below n node.0 exists in omega arith)) _
    (all_mapped (λ (node : Node). ExistsAt node.0 n) (λ (p : InclusionClaim). p.leaf) ps
    (all_weaken _ (λ (p : InclusionClaim). ExistsAt p.leaf.0 n) (λ p q. rw (← q.1) q.0) ps
    (inclusions_good n ps good.1))))

-- so the numbers that were collected and sorted are the needed ones
pub keys_are : (cs : List ConsistencyClaim) (ps : List InclusionClaim) (n : ℕ) (keys : List ℕ) → bundle_length cs ps
    ≡ Ok n → IsSorted nat_cmp keys → IsDistinct nat_eq keys
    → IsUnion [] keys (flat_map (λ (p : ConsistencyClaim). needed_between p.old_length p.new_length) cs ++ flat_map
    (λ (p : InclusionClaim). needed p.leaf.0 p.log_length) ps)
    → needed_ascending (map (λ (p : ConsistencyClaim). p.old_length) cs) (map (λ (p : InclusionClaim). p.leaf) ps) n
    ≡ keys
keys_are cs ps n keys is sorted once adds =
    let good = length_good cs ps n is in
    let ys = needed_by (map (λ (p : ConsistencyClaim). p.old_length) cs) (map (λ (p : InclusionClaim). p.leaf) ps) n in
    let exactly = needed_exactly_by (λ (p : ConsistencyClaim). p.old_length ≤ p.new_length)
    (λ (p : InclusionClaim). ExistsAt p.leaf.0 p.log_length) (λ p. p.old_length) (λ p. p.new_length) (λ p. p.leaf)
    (λ p. p.log_length) n cs ps keys
    adds (consistencies_good n cs good.0) (inclusions_good n ps good.1) in
    filtered (λ x. list_any (nat_eq x) ys) 0 (2 * n) keys (rises keys sorted once)
    (all_among (λ x. 0 ≤ x) keys (λ x there. omega arith))
    (all_among (λ x. x < 0 + 2 * n) keys (λ x there. let lt : x < 2 * n = among (λ y. y < 2 * n) x ys
    (all_below cs ps n is) (sym (exactly x) ∙ there) in omega arith))
    (λ z le. sym (exactly z))

-- ---- what a bundle holds

sourced : (F : ℕ → Option (List ℕ)) (xs : List ℕ) → first_fault (node_fault F) xs ≡ None
    → AllByRecursion (λ (p : Node × List ℕ). F p.0.0 ≡ Some p.1) (map (node_with_digest F) xs)
sourced F [] none = tt
sourced F (x ∷ xs) none =
    let p = both_none (node_fault F x) (first_fault (node_fault F) xs) none in
    (held (F x) p.0, sourced F xs p.1)
  where
    held : (o : Option (List ℕ)) → (if is_some o then None else Some HashNotFound) ≡ None → o ≡ Some (unwrap_or o [])
    held (Some d) none = refl
    held None none = absurd (cc)

pub record Holds (F : ℕ → Option (List ℕ)) (cs : List ConsistencyClaim) (ps : List InclusionClaim)
    (b : Bundle) : Type 0 where
  pub new_lengths : AllByRecursion (λ (p : ConsistencyClaim). p.new_length ≡ b.log_length) cs
  pub log_lengths : AllByRecursion (λ (p : InclusionClaim). p.log_length ≡ b.log_length) ps
  pub old_lengths : b.consistent_lengths ≡ map (λ (p : ConsistencyClaim). p.old_length) cs
  pub nodes : b.included_nodes ≡ map (λ (p : InclusionClaim). p.leaf) ps
  pub ascending : IsAscending b.hashes
  pub exactly : HoldsNeeded b
  pub source : AllByRecursion (λ (p : Node × List ℕ). F p.0.0 ≡ Some p.1) b.hashes

pub bundle_holds : (F : ℕ → Option (List ℕ)) (cs : List ConsistencyClaim) (ps : List InclusionClaim) (b : Bundle)
    → bundled F cs ps ≡ Ok b → Holds F cs ps b
bundle_holds F cs ps b is = holds (bundle_length cs ps) refl is
  where
    holds : (length : Result ℕ BundleError) → bundle_length cs ps ≡ length
        → (length >>= bundle_at F (map (λ (p : ConsistencyClaim). p.old_length) cs)
        (map (λ (p : InclusionClaim). p.leaf) ps)) ≡ Ok b → Holds F cs ps b
    holds (Err e) length_is is = absurd (cc)
    holds (Ok n) length_is is =
        let olds = map (λ (p : ConsistencyClaim). p.old_length) cs in
        let nodes = map (λ (p : InclusionClaim). p.leaf) ps in
        let p = no_fault (first_fault (node_fault F) (needed_ascending olds nodes n)) _ b is in
        let good = length_good cs ps n length_is in
        rw (← p.1) (record {
          new_lengths = all_weaken _ (λ (p : ConsistencyClaim). p.new_length ≡ n) (λ p q. q.1) cs
              (consistencies_good n cs good.0);
          log_lengths = all_weaken _ (λ (p : InclusionClaim). p.log_length ≡ n) (λ p q. q.1) ps
              (inclusions_good n ps good.1);
          old_lengths = refl;
          nodes = refl;
          ascending = pairs_ascend F _ (left_of_range (λ x. list_any (nat_eq x) (needed_by olds nodes n)) 0 (2 * n)).1;
          exactly = λ x. ap (list_any (nat_eq x)) (numbers_of F (needed_ascending olds nodes n))
              ∙ left_are (needed_by olds nodes n) (2 * n) (all_below cs ps n length_is) x;
          source = sourced F _ p.0;
        })

-- ---- the digests that proofs need, and the bundle of the proofs with them

pub digests_are : (F : ℕ → Option (List ℕ)) (cs : List ConsistencyClaim) (ps : List InclusionClaim) (n : ℕ)
    (keys : List ℕ) (fault : Option BundleError)
    → needed_ascending (map (λ (p : ConsistencyClaim). p.old_length) cs) (map (λ (p : InclusionClaim). p.leaf) ps) n
    ≡ keys → first_fault (node_fault F) keys ≡ fault
    → digests_at F (map (λ (p : ConsistencyClaim). p.old_length) cs) (map (λ (p : InclusionClaim). p.leaf) ps) n
    ≡ unless fault (map (node_with_digest F) keys)
digests_are F cs ps n keys fault keys_is is = rw (keys_is, is) refl

unless_then : {X Y : Type 0} (fault : Option BundleError) (x : X) (f : X → Y) → unless fault (f x)
    ≡ (unless fault x >>= (λ y. Ok (f y)))
unless_then None x f = refl
unless_then (Some e) x f = refl

pub bundled_is : (F : ℕ → Option (List ℕ)) (cs : List ConsistencyClaim) (ps : List InclusionClaim) (n : ℕ)
    → bundle_length cs ps ≡ Ok n
    → let olds = map (λ (p : ConsistencyClaim). p.old_length) cs in
    let nodes = map (λ (p : InclusionClaim). p.leaf) ps in
    bundled F cs ps ≡ (digests_at F olds nodes n >>=
    (λ pairs. Ok (record { log_length = n; consistent_lengths = olds; included_nodes = nodes; hashes = pairs })))
bundled_is F cs ps n length_is = rw length_is (unless_then _ _ _)
