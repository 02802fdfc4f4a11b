-- Laws of bits that are put in front of a map.
use Rattle.std.proofs.Common.{◌≡◌, ℕ, length, ◌+◌, Bool, true, false, List, [], ◌∷◌, ◌++◌, Option, None, is_some, refl, arith, not, ◌⊎◌, inl, inr}
use Rattle.std.proofs.lemmas.List.{take_at}
use Rattle.std.specs.FinMap.{get, insert, empty, contains_key, get-empty}
use Rattle.warg_crypto.specs.EmptyTrees.{empty_root}
use Rattle.warg_crypto.specs.Tree.{input_beside}
use Rattle.warg_map.specs.Bits.{bit_at, bits_from}
use Rattle.warg_map.specs.Sparse.{SparseMap, bits_cmp, sparse_root}
use Rattle.warg_map.specs.Private.Under.{join_at, under, stem_root, HoldsKey}
use Rattle.warg_map.proofs.SparseTree.{insert-join_at, get-join_at, get-join_far, empty-is_join_at, get-join_nil, sparse_root-join, sparse_root-empty}
use Rattle.warg_map.proofs.KeyBits.{length-bits_from, bits_from-first}

-- a map on one side
pub join_at-other : (b c : Bool) (x y : SparseMap) → ¬ (c ≡ b) → join_at c x y ≡ join_at b y x
join_at-other true true x y h = absurd (h refl)
join_at-other true false x y h = refl
join_at-other false true x y h = refl
join_at-other false false x y h = absurd (h refl)

get-join_at_nil : (b : Bool) (x y : SparseMap) → get (join_at b x y) [] ≡ None
get-join_at_nil true x y = get-join_nil y x
get-join_at_nil false x y = get-join_nil x y

-- bits in front
pub under-append : (a b : List Bool) (m : SparseMap) → under (a ++ b) m ≡ under a (under b m)
unfolding under
under-append [] b m = refl
under-append (x ∷ a) b m = rw (under-append a b m)

pub under-none : (m : SparseMap) → under [] m ≡ m
unfolding under
under-none m = refl

pub get-under : (bs p : List Bool) (m : SparseMap) → get (under bs m) (bs ++ p) ≡ get m p
unfolding under
get-under [] p m = refl
get-under (b ∷ bs) p m = rw (get-join_at, get-under bs p m)

pub insert-under : (bs p : List Bool) (m : SparseMap) (v : List ℕ) → insert (under bs m) (bs ++ p) v
    ≡ under bs (insert m p v)
unfolding under
insert-under [] p m v = refl
insert-under (b ∷ bs) p m v = rw (insert-join_at, insert-under bs p m v)

-- bits that part from those in front
pub get-under_head : (b c : Bool) (cs p : List Bool) (m : SparseMap) → ¬ (c ≡ b) → get (under (c ∷ cs) m) (b ∷ p) ≡ None
unfolding under
get-under_head b c cs p m h = rw (join_at-other b c (under cs m) empty h, get-join_at, get-empty)

-- one key is bits in front of a leaf
pub lone-under : (bs : List Bool) (v : List ℕ) → insert empty bs v ≡ under bs (insert empty [] v)
unfolding under
lone-under [] v = refl
lone-under (b ∷ bs) v = rw (← lone-under bs v, ← insert-join_at b empty empty bs v, ← empty-is_join_at b)

pub lone-append : (a bs : List Bool) (v : List ℕ) → insert empty (a ++ bs) v ≡ under a (insert empty bs v)
lone-append a bs v = rw (lone-under (a ++ bs) v, under-append, ← lone-under bs v)

-- what is held has the bits in front
pub no_some : (o : Option (List ℕ)) → o ≡ None → is_some o ≡ true → ⊥
no_some o n s = cc

-- a bit is another or its opposite
pub same_or_other : (b c : Bool) → (c ≡ b) ⊎ (c ≡ not b)
same_or_other b c = grind arith

pub only-under : (bs q : List Bool) (m : SparseMap) → contains_key (under bs m) q ≡ true → (r : List Bool)
    × (q ≡ bs ++ r) × (contains_key m r ≡ true)
unfolding under
only-under [] q m h = (q, refl, h)
only-under (b ∷ bs) [] m h = absurd (no_some _ (get-join_at_nil b (under bs m) empty) h)
only-under (b ∷ bs) (c ∷ q) m h = elim (same_or_other b c) [
  | inl e ↦ (let r = only-under bs q m (simp (e, get-join_at) at h) in (r.0, cc (e, r.1), r.2))
  | inr e ↦ absurd (no_some _ (get-empty bits_cmp q) (simp (e, get-join_far) at h))
]

pub under_same : (a bs rest : List Bool) (m : SparseMap) → length a ≡ length bs → contains_key (under bs m) (a ++ rest)
    ≡ true → a ≡ bs
under_same a bs rest m n h = grind (arith, only-under bs (a ++ rest) m h, take_at a rest (length bs) n, take_at)

pub holds-under : (bs : List Bool) (m : SparseMap) → HoldsKey m → HoldsKey (under bs m)
holds-under bs m h = (bs ++ h.0, rw get-under h.1)

-- roots
step_root : (H : List ℕ → List ℕ) (k : ℕ) (b : Bool) (m : SparseMap) → sparse_root H (k + 1) (join_at b m empty)
    ≡ H (input_beside b (empty_root H k) (sparse_root H k m))
step_root H k true m = rw (sparse_root-join H k empty m, sparse_root-empty H k)
step_root H k false m = rw (sparse_root-join H k m empty, sparse_root-empty H k)

pub stem_root-under : (H : List ℕ → List ℕ) (k : ℕ) (bs : List Bool) (m : SparseMap)
    → stem_root H k (sparse_root H k m) bs ≡ sparse_root H (k + length bs) (under bs m)
unfolding stem_root under
stem_root-under H k [] m = let e : k + 0 ≡ k = omega arith in rw e
stem_root-under H k (b ∷ bs) m = grind (arith, stem_root-under H k bs m, step_root H (k + length bs) b (under bs m))

pub stem_root-more : (H : List ℕ → List ℕ) (k : ℕ) (x key : List ℕ) (i n : ℕ)
    → stem_root H k x (bits_from key i (n + 1)) ≡ H (input_beside (bit_at key i) (empty_root H (k + n))
    (stem_root H k x (bits_from key (i + 1) n)))
unfolding stem_root
stem_root-more H k x key i n = rw (bits_from-first key i n, length-bits_from key (i + 1) n)
