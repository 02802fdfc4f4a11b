-- The number of nodes.
use Rattle.std.proofs.Common.{◌≡◌, ℕ, zero, suc, length, ◌+◌, ◌<◌, Bool, true, false, cond, not, List, [], ◌∷◌, is_some, refl, ap, ◌∙◌, arith, add-one, ◌⊎◌, inl, inr}
use Rattle.std.proofs.lemmas.Bool.Decides.{nat_tests}
use Rattle.std.specs.FinMap.{from_entries, entries, find, get, insert, empty, len, get-entries, get-from_entries, len-insert, len-empty, len-remove, get-remove, remove, empty_of_len}
use Rattle.std.specs.declared.rc.Rc.{Rc}
use Rattle.warg_map.specs.declared.node.Node.{Node}
use Rattle.warg_map.specs.declared.node.Node.TheVariants.{Fork, Stem}
use Rattle.warg_map.specs.declared.node.Fork.{Fork as Fork'}
use Rattle.warg_map.specs.declared.node.Stem.{Stem as Stem'}
use Rattle.warg_map.specs.Bits.{bits_from}
use Rattle.warg_map.specs.Sparse.{SparseMap, bits_cmp}
use Rattle.warg_map.specs.Private.Under.{join, join_at, under, HoldsKey, Splits}
use Rattle.warg_map.specs.Private.Seen.{seen, tree_height, held_by, IsWellFormed, IsBelow, counted}
use Rattle.warg_map.specs.Count.{stripped, half_after, nodes}
use Rattle.warg_map.proofs.TreeForm.{stem_holds, stem_no_split}
use Rattle.warg_map.proofs.SparseTree.{bits_total, same_sparse, get-join_at, get-join_far, insert-join_at, empty-is_join_at, contains_key-empty}
use Rattle.warg_map.proofs.KeyBits.{length-bits_from}

-- what a map holds after a bit
find-stripped : (b : Bool) (q : List Bool) (es : List (List Bool × List ℕ)) → find bits_cmp q (stripped b es)
    ≡ find bits_cmp (b ∷ q) es
unfolding stripped
find-stripped b q [] = refl
find-stripped true q (([], v) ∷ es) = find-stripped true q es
find-stripped false q (([], v) ∷ es) = find-stripped false q es
find-stripped true q ((true ∷ p, v) ∷ es) = rw (find-stripped true q es)
find-stripped true q ((false ∷ p, v) ∷ es) = find-stripped true q es
find-stripped false q ((true ∷ p, v) ∷ es) = find-stripped false q es
find-stripped false q ((false ∷ p, v) ∷ es) = rw (find-stripped false q es)

get-half_after : (b : Bool) (m : SparseMap) (q : List Bool) → get (half_after b m) q ≡ get m (b ∷ q)
unfolding half_after
get-half_after b m q = rw (get-from_entries bits_total, get-entries) (find-stripped b q (entries m))

half-near : (b : Bool) (near far : SparseMap) → half_after b (join_at b near far) ≡ near
half-near b near far = same_sparse _ _ (λ q. rw (get-half_after, get-join_at))

half-far : (b : Bool) (near far : SparseMap) → half_after (not b) (join_at b near far) ≡ far
half-far b near far = same_sparse _ _ (λ q. rw (get-half_after, get-join_far))

-- how many keys a join holds
from_entries_same : (m : SparseMap) → from_entries (entries m) ≡ m
from_entries_same m = same_sparse _ _ (λ q. rw (get-from_entries bits_total, get-entries))

len_near : (b : Bool) (es : List (List Bool × List ℕ)) (far : SparseMap) → len (join_at b (from_entries es) far)
    ≡ len (from_entries {R = bits_cmp} es) + len (join_at b empty far)
len_near b [] far = omega (arith, len-empty bits_cmp (List ℕ))
len_near b (e ∷ es) far =
    let m = from_entries {R = bits_cmp} es in
    rw (← insert-join_at b m far e.0 e.1) (grind (
      arith,
      len_near b es far,
      len-insert bits_total m e.0 e.1,
      len-insert bits_total (join_at b m far) (b ∷ e.0) e.1,
      ap is_some (get-join_at b m far e.0),
    ))

len_far : (b : Bool) (far : SparseMap) → len (join_at b empty far) ≡ len far
len_far true far = omega (
  arith,
  rw (from_entries_same far) at (len_near false (entries far) empty),
  ap len
      (empty-is_join_at false),
  len-empty bits_cmp (List ℕ),
)
len_far false far = omega (
  arith,
  rw (from_entries_same far) at (len_near true (entries far) empty),
  ap len
      (empty-is_join_at true),
  len-empty bits_cmp (List ℕ),
)

pub len-join_at : (b : Bool) (near far : SparseMap) → len (join_at b near far) ≡ len near + len far
len-join_at b near far = rw (from_entries_same near) at (len_near b (entries near) far)
    ∙ ap (λ n. len near + n) (len_far b far)

pub len-lone : (q : List Bool) (v : List ℕ) → len (insert (empty {K = List Bool} {X = List ℕ} {R = bits_cmp}) q v) ≡ 1
len-lone q v = rw (len-insert bits_total empty q v, contains_key-empty q, len-empty bits_cmp (List ℕ))

pub len-under : (bs : List Bool) (m : SparseMap) → len (under bs m) ≡ len m
unfolding under
len-under [] m = refl
len-under (b ∷ bs) m = omega (arith, len-join_at b (under bs m) empty, len-empty bits_cmp (List ℕ), len-under bs m)

pub some_held : (m : SparseMap) → HoldsKey m → 0 < len m
some_held m h =
    let not_none : ¬ (len m ≡ 0) = λ e. (let held = rw (empty_of_len m e, contains_key-empty) at h.1 in cc) in
    omega (arith, not_none)

-- how many nodes
nodes-lone : (k : ℕ) (m : SparseMap) (run : Bool) → len m ≡ 1 → nodes k m run ≡ 1
unfolding nodes
nodes-lone zero m run e = refl
nodes-lone (suc k) m run e = rw e

nodes-join : (k : ℕ) (l r : SparseMap) (run : Bool) → 0 < len l → 0 < len r → nodes (k + 1) (join l r) run
    ≡ 1 + (nodes k l false + nodes k r false)
unfolding nodes
nodes-join k l r run hl hr = rw (add-one k, half-near false l r, half-far false l r, len-join_at false l r)
    (grind (arith, nat_tests))

nodes-step : (k : ℕ) (b : Bool) (m : SparseMap) (run : Bool) → 1 < len m → nodes (k + 1) (join_at b m empty) run
    ≡ nodes k m true + cond run 0 1
unfolding nodes
nodes-step k true m run h =
    rw (add-one k, half-near true, half-far true, len-join_at, len-empty) (grind (arith, nat_tests))
nodes-step k false m run h =
    rw (add-one k, half-near false, half-far false, len-join_at, len-empty) (grind (arith, nat_tests))

nodes-under : (k : ℕ) (a : List Bool) (m : SparseMap) (run : Bool) → 1 < len m → 0 < length a
    → nodes (k + length a) (under a m) run ≡ nodes k m true + cond run 0 1
unfolding under
nodes-under k [] m run h some = absurd (omega (arith, some))
nodes-under k (b ∷ []) m run h some = nodes-step k b m run h
nodes-under k (b ∷ c ∷ a) m run h some = grind (
  arith,
  nodes-step (k + length (c ∷ a)) b (under (c ∷ a) m) run,
  len-under (c ∷ a) m,
  nodes-under k (c ∷ a) m true h,
)

pub splits_more : (m : SparseMap) → Splits m → 1 < len m
splits_more m s =
    let others = some_held (remove m (false ∷ s.0.0)) (true ∷ s.1.0, rw (get-remove bits_total) s.1.1) in
    omega (arith, others, rw s.0.1 at (len-remove bits_total m (false ∷ s.0.0)))

split_step : (k : ℕ) (m : SparseMap) → 1 < len m → 0 < len (half_after false m) → 0 < len (half_after true m)
    → nodes (suc k) m true ≡ nodes (suc k) m false
unfolding nodes
split_step k m h l r = grind (arith, nat_tests)

nodes-split : (k : ℕ) (m : SparseMap) → Splits m → nodes k m true ≡ nodes k m false
unfolding nodes
nodes-split zero m s = refl
nodes-split (suc k) m s = grind (arith, split_step, splits_more, some_held, get-half_after)

-- the count of a tree by the counts below it
counted_more : (k : ℕ) (m : SparseMap) → 1 < len m → counted k m ≡ nodes k m false
counted_more k m h = grind (arith, nat_tests)

counted_low : (k : ℕ) (m : SparseMap) → 0 < len m → k < 256 → counted k m ≡ nodes k m false
counted_low k m h lt = grind (arith, nat_tests, nodes-lone k m false)

pub counted_lone : (k : ℕ) (q : List Bool) (v : List ℕ) → k < 256 → 1 ≡ counted k (insert empty q v)
counted_lone k q v lt = rw (len-lone q v) (grind (arith, nat_tests))

-- a fork
pub record IsForkCount (count size : ℕ) (l r : ℕ × SparseMap) : Type 0 where
  pub exact : count ≡ 1 + (counted l.0 l.1 + counted r.0 r.1)
  pub size_is : size ≡ len l.1 + len r.1
  pub some : (0 < len l.1) × (0 < len r.1)
  pub low : (l.0 < 256) × (r.0 < 256)

pub fork_count : {D A : _} {old : Node D A} {f : Rc (Fork' D A) A} {l r : ℕ × SparseMap} → old ≡ Fork f
    → IsWellFormed old → l ≡ f.value.left → r ≡ f.value.right → IsForkCount (counted (tree_height old) (held_by old))
    (len (held_by old)) l r
fork_count {f} is w le re = grind (
  arith,
  some_held,
  len-join_at false f.value.left.1 f.value.right.1,
  counted_more,
  nodes-join,
  counted_low,
)

-- a stem
pub record IsStemCount (old below : ℕ × SparseMap) : Type 0 where
  pub exact : counted old.0 old.1 ≡ 1 + counted below.0 below.1
  pub size_is : len old.1 ≡ len below.1
  pub some : 0 < len below.1
  pub low : below.0 < 256
  pub splits : (old.0 < 256) ⊎ (1 < len old.1) → Splits below.1
  pub runs : ¬ Splits old.1

stem_exact : {n : ℕ} (k : ℕ) (a : List Bool) (m : SparseMap) → IsBelow n (k, m) → length a ≡ n → 0 < n
    → counted (k + n) (under a m) ≡ 1 + counted k m
stem_exact {n} k a m (inl s) la some = grind (arith, splits_more, counted_more, len-under, nodes-under, nodes-split)
stem_exact k a m (inr o) la some = rw (len-under a m, o.2.2, len-lone o.2.0 o.2.1, o.0, o.1)

stem_splits : (n k : ℕ) (m : SparseMap) → IsBelow n (k, m) → (k + n < 256) ⊎ (1 < len m) → Splits m
stem_splits n k m (inl s) more = s
stem_splits n k m (inr o) (inl low) = absurd (omega (arith, low, o.0, o.1))
stem_splits n k m (inr o) (inr more) = absurd (omega (arith, more, ap len o.2.2 ∙ len-lone o.2.0 o.2.1))

pub stem_count : {D A : _} {old : Node D A} {s : Rc (Stem' D A) A} {b : ℕ × SparseMap} → old ≡ Stem s → IsWellFormed old
    → b ≡ s.value.below → IsStemCount (seen old) b
stem_count {s} is w be =
    let ws : IsWellFormed (Stem s) = rw is at w in
    let a = bits_from s.value.key s.value.from s.value.len in
    let la : length (bits_from s.value.key s.value.from s.value.len) ≡ s.value.len =
    length-bits_from s.value.key s.value.from s.value.len in
    let size = len-under a s.value.below.1 in
    rw (is, be) (record {
      exact = stem_exact s.value.below.0 a s.value.below.1 ws.formed.1 la ws.formed.0;
      size_is = size;
      some = some_held s.value.below.1 (stem_holds s.value.len s.value.below ws.formed.1);
      low = omega (arith, ws.level, ws.formed.0);
      splits = λ more. stem_splits s.value.len s.value.below.0 s.value.below.1 ws.formed.1 (rw size at more);
      runs = stem_no_split a s.value.below.1 (omega (arith, la, ws.formed.0));
    })
