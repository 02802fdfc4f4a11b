-- Laws of the plain sparse tree.
use Rattle.std.proofs.Common.{◌≡◌, ℕ, zero, suc, ◌+◌, Bool, true, false, cond, not, List, [], ◌∷◌, ◌++◌, map, Option, Some, None, is_some, refl, ap, ◌∙◌, add-one}
use Rattle.std.specs.FinMap.{entries, get, insert, empty, find, get-empty, get-insert, get-entries, get-from_entries, same_map, IsAntisymmetric, slice_cmp-IsAntisymmetric, contains_key}
use Rattle.std.specs.Ordering.{bool_cmp, eq_by_cmp}
use Rattle.std.specs.Cmp.{IsTotalOrder, bool_cmp_total, Equal-is, eq_by_cmp_equiv}
use Rattle.std.proofs.lemmas.Bool.{false_from_ne_true}
use Rattle.std.specs.Cmp.Lexicographic.{lists_total}
use Rattle.warg_crypto.specs.EmptyTrees.{empty_root}
use Rattle.warg_map.specs.Sparse.{SparseMap, bits_cmp, root_of_levels, sparse_root}
use Rattle.warg_map.specs.Private.Under.{join, join_at}

pub bits_total : IsTotalOrder bits_cmp
bits_total = lists_total bool_cmp_total

pub bits_IsAntisymmetric : IsAntisymmetric bits_cmp
bits_IsAntisymmetric = slice_cmp-IsAntisymmetric same_bool
  where
    same_bool : IsAntisymmetric bool_cmp
    same_bool false false e = refl
    same_bool false true e = cc
    same_bool true false e = cc
    same_bool true true e = refl

-- bits that the test calls the same are the same
pub tied : (q p : List Bool) → eq_by_cmp bits_cmp q p ≡ true → q ≡ p
tied q p e = bits_IsAntisymmetric q p ((Equal-is (bits_cmp q p)).0 e)

pub tied_itself_bits : (q : List Bool) → eq_by_cmp bits_cmp q q ≡ true
tied_itself_bits = (eq_by_cmp_equiv bits_total).refl

-- two maps that answer alike are one
pub same_sparse : (m n : SparseMap) → ((q : List Bool) → get m q ≡ get n q) → m ≡ n
same_sparse m n h = same_map bits_total bits_IsAntisymmetric m n h

-- what an insertion leaves
pub get-insert_same : (m : SparseMap) (p : List Bool) (v : List ℕ) → get (insert m p v) p ≡ Some v
get-insert_same m p v = rw (get-insert bits_total m p v p, tied_itself_bits p)

pub get-insert_other : (m : SparseMap) (p q : List Bool) (v : List ℕ) → ¬ (q ≡ p) → get (insert m p v) q ≡ get m q
get-insert_other m p q v n = rw (get-insert bits_total m p v q, false_from_ne_true _ (λ e. n (tied q p e)))

pub contains_key-insert_same : (m : SparseMap) (p : List Bool) (v : List ℕ) → contains_key (insert m p v) p ≡ true
contains_key-insert_same m p v = ap is_some (get-insert_same m p v)

pub contains_key-empty : (q : List Bool) → contains_key (empty {X = List ℕ} {R = bits_cmp}) q ≡ false
contains_key-empty q = ap is_some (get-empty bits_cmp q)

-- the entries of two sides, found after their bit
abbrev entries_of_join : List (List Bool × List ℕ) → List (List Bool × List ℕ) → List (List Bool × List ℕ)
entries_of_join es fs = map (λ e. (false ∷ e.0, e.1)) es ++ map (λ e. (true ∷ e.0, e.1)) fs

find_joined : (q : List Bool) (es fs : List (List Bool × List ℕ)) → (find bits_cmp [] (entries_of_join es fs) ≡ None)
    × (find bits_cmp (false ∷ q) (entries_of_join es fs) ≡ find bits_cmp q es)
    × (find bits_cmp (true ∷ q) (entries_of_join es fs) ≡ find bits_cmp q fs)
find_joined q [] [] = (refl, refl, refl)
find_joined q [] (f ∷ fs) = let h = find_joined q [] fs in (h.0, h.1, rw h.2)
find_joined q (e ∷ es) fs = let h = find_joined q es fs in (h.0, rw h.1, h.2)

-- what a join holds
pub get-join_nil : (l r : SparseMap) → get (join l r) [] ≡ None
unfolding join
get-join_nil l r = rw (get-from_entries bits_total) (find_joined [] (entries l) (entries r)).0

pub get-join_false : (l r : SparseMap) (q : List Bool) → get (join l r) (false ∷ q) ≡ get l q
unfolding join
get-join_false l r q = rw (get-from_entries bits_total, get-entries) (find_joined q (entries l) (entries r)).1

pub get-join_true : (l r : SparseMap) (q : List Bool) → get (join l r) (true ∷ q) ≡ get r q
unfolding join
get-join_true l r q = rw (get-from_entries bits_total, get-entries) (find_joined q (entries l) (entries r)).2

pub get-join_at : (b : Bool) (near far : SparseMap) (q : List Bool) → get (join_at b near far) (b ∷ q) ≡ get near q
get-join_at true near far q = get-join_true far near q
get-join_at false near far q = get-join_false near far q

pub get-join_far : (b : Bool) (near far : SparseMap) (q : List Bool) → get (join_at b near far) (not b ∷ q) ≡ get far q
get-join_far true near far q = get-join_false far near q
get-join_far false near far q = get-join_true near far q

ruleset gets_of_join = (get-insert, bits_total, get-empty, get-join_nil, get-join_false, get-join_true)

-- a map is the join of what it holds after 0 and after 1
is_join : (m l r : SparseMap) → get m [] ≡ None → ((q : List Bool) → get m (false ∷ q) ≡ get l q)
    → ((q : List Bool) → get m (true ∷ q) ≡ get r q) → m ≡ join l r
is_join m l r n f t = same_sparse m (join l r) at
  where
    at : (q : List Bool) → get m q ≡ get (join l r) q
    at [] = rw get-join_nil n
    at (false ∷ q) = rw get-join_false (f q)
    at (true ∷ q) = rw get-join_true (t q)

pub empty-is_join_at : (b : Bool) → empty {X = List ℕ} {R = bits_cmp} ≡ join_at b empty empty
empty-is_join_at true = is_join _ _ _ (simp gets_of_join) (λ q. simp gets_of_join) (λ q. simp gets_of_join)
empty-is_join_at false = is_join _ _ _ (simp gets_of_join) (λ q. simp gets_of_join) (λ q. simp gets_of_join)

-- an insertion goes to the side of its first bit
pub insert-join_at : (b : Bool) (near far : SparseMap) (p : List Bool) (v : List ℕ)
    → insert (join_at b near far) (b ∷ p) v ≡ join_at b (insert near p v) far
insert-join_at true near far p v = is_join _ _ _ (simp gets_of_join) (λ q. simp gets_of_join) (λ q. simp gets_of_join)
insert-join_at false near far p v = is_join _ _ _ (simp gets_of_join) (λ q. simp gets_of_join) (λ q. simp gets_of_join)

pub insert-join_far : (b : Bool) (near far : SparseMap) (p : List Bool) (v : List ℕ)
    → insert (join_at b near far) (not b ∷ p) v ≡ join_at b near (insert far p v)
insert-join_far true near far p v = insert-join_at false far near p v
insert-join_far false near far p v = insert-join_at true far near p v

-- the value inserted last counts
pub insert-again : (m : SparseMap) (p : List Bool) (v w : List ℕ) → insert (insert m p v) p w ≡ insert m p w
insert-again m p v w = same_sparse _ _
    (λ q. simp (get-insert, bits_total) (again (eq_by_cmp bits_cmp q p) (Some w) (Some v) (get m q)))
  where
    again : {A : Type 0} (b : Bool) (x y z : A) → cond b x (cond b y z) ≡ cond b x z
    again true x y z = refl
    again false x y z = refl

-- roots
pub root-nothing : (H : List ℕ → List ℕ) (k : ℕ) → root_of_levels H k (λ q. None) ≡ empty_root H k
unfolding root_of_levels empty_root
root-nothing H zero = refl
root-nothing H (suc k) = ap (λ e. H (1 ∷ (e ++ e))) (root-nothing H k)

pub root-same : (H : List ℕ → List ℕ) (k : ℕ) (m n : List Bool → Option (List ℕ)) → ((q : List Bool) → m q ≡ n q)
    → root_of_levels H k m ≡ root_of_levels H k n
root-same H k m n h = λ i. root_of_levels H k (λ q. h q i)

pub sparse_root-empty : (H : List ℕ → List ℕ) (k : ℕ) → sparse_root H k empty ≡ empty_root H k
sparse_root-empty H k = root-same H k _ _ (get-empty bits_cmp) ∙ root-nothing H k

pub sparse_root-join : (H : List ℕ → List ℕ) (k : ℕ) (l r : SparseMap) → sparse_root H (k + 1) (join l r)
    ≡ H (1 ∷ (sparse_root H k l ++ sparse_root H k r))
unfolding root_of_levels
sparse_root-join H k l r =
    rw (add-one k, root-same H k _ _ (get-join_false l r), root-same H k _ _ (get-join_true l r))

pub head_differs : (b : Bool) (p q : List Bool) → ¬ (not b ∷ q ≡ b ∷ p)
head_differs true p q e = cc
head_differs false p q e = cc
