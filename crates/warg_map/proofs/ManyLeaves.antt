-- Laws of leaves that are put into a tree.
use Rattle.std.proofs.Common.{◌≡◌, ℕ, length, ◌+◌, ◌-◌, ◌<◌, ◌≤◌, Bool, true, false, cond, not, List, [], ◌∷◌, ◌++◌, refl, sym, arith, take, get_or, ◌⊎◌, inl, inr, length-append}
use Rattle.std.specs.FinMap.{insert, empty, contains_key, len, len-insert}
use Rattle.std.proofs.lemmas.List.{take_more, take_all, append-nil, length_push}
use Rattle.std.proofs.lemmas.List.Elements.{filter-append}
use Rattle.std.proofs.lemmas.Bool.{cases_lt}
use Rattle.warg_protobuf.proofs.ForCallers.{all_parts}
use Rattle.warg_map.specs.Private.Lone.{Lone}
use Rattle.warg_map.specs.Bits.{bit_at, bits_from, last_bits}
use Rattle.warg_map.specs.Sparse.{SparseMap, HasLevels}
use Rattle.warg_map.specs.Private.Under.{join_at, under, HoldsKey}
use Rattle.warg_map.specs.Private.Grown.{with_leaves, ShareBits, is_bit, on_side}
use Rattle.warg_map.proofs.HeldKeys.{levels-insert}
use Rattle.warg_map.proofs.SparseTree.{bits_total, insert-join_at, insert-join_far, insert-again, contains_key-insert_same, empty-is_join_at}
use Rattle.warg_map.proofs.BitsInFront.{insert-under}
use Rattle.warg_map.proofs.TreeForm.{held_after}
use Rattle.warg_map.proofs.KeyBits.{length-last_bits, last_bits-step, bits_left-split}

-- sides
side_of : (b x : Bool) → ((is_bit b x ≡ true) × (is_bit (not b) x ≡ false) × (x ≡ b))
    ⊎ ((is_bit b x ≡ false) × (is_bit (not b) x ≡ true) × (x ≡ not b))
side_of true true = inl (refl, refl, refl)
side_of true false = inr (refl, refl, refl)
side_of false true = inr (refl, refl, refl)
side_of false false = inl (refl, refl, refl)

pub on_side-push : (at : ℕ) (b : Bool) (es : List Lone) (e : Lone) → on_side at b (es ++ e ∷ [])
    ≡ on_side at b es ++ cond (is_bit b (bit_at e.key at)) (e ∷ []) []
unfolding on_side
on_side-push at b es e = filter-append (λ x. is_bit b (bit_at x.key at)) es (e ∷ [])

pub push_near : (at : ℕ) (b : Bool) (es : List Lone) (e : Lone) → bit_at e.key at ≡ b
    → (on_side at b (es ++ e ∷ []) ≡ on_side at b es ++ e ∷ []) × (on_side at (not b) (es ++ e ∷ []) ≡ on_side at
    (not b) es)
push_near at b es e h = grind (
  arith,
  on_side-push at b es e,
  on_side-push at (not b) es e,
  append-nil (on_side at (not b) es),
)

pub push_far : (at : ℕ) (b : Bool) (es : List Lone) (e : Lone) → ¬ (bit_at e.key at ≡ b)
    → (on_side at b (es ++ e ∷ []) ≡ on_side at b es) × (on_side at (not b) (es ++ e ∷ []) ≡ on_side at (not b) es ++ e
    ∷ [])
push_far at b es e h = grind (arith, on_side-push at b es e, on_side-push at (not b) es e, append-nil (on_side at b es))

pub on_side-append : (at : ℕ) (b : Bool) (es os : List Lone) → on_side at b (es ++ os)
    ≡ on_side at b es ++ on_side at b os
unfolding on_side
on_side-append at b es os = filter-append (λ x. is_bit b (bit_at x.key at)) es os

-- leaves of both sides of a bit
pub with_leaves-join_at : (b : Bool) (at k : ℕ) → at + 1 + k ≡ 256 → (x y : SparseMap) (es : List Lone)
    → with_leaves (k + 1) (join_at b x y) es ≡ join_at b (with_leaves k x (on_side at b es))
    (with_leaves k y (on_side at (not b) es))
unfolding with_leaves on_side
with_leaves-join_at b at k sum x y [] = refl
with_leaves-join_at b at k sum x y (e ∷ es) =
    let q = last_bits e.key k in
    let place : 255 - k ≡ at = omega (arith, sum) in
    let first : last_bits e.key (k + 1) ≡ bit_at e.key at ∷ last_bits e.key k = rw place at
    (last_bits-step e.key k (omega (arith, sum))) in
    grind (
      arith,
      side_of,
      insert-join_at,
      with_leaves-join_at b at k sum (insert x q e.value) y es,
      insert-join_far,
      with_leaves-join_at b at k sum x (insert y q e.value) es,
    )

-- leaves below shared bits
pub with_leaves-under : (key : List ℕ) (i n k : ℕ) → i + n + k ≡ 256 → (m : SparseMap) (es : List Lone)
    → ShareBits key i n es → with_leaves (k + n) (under (bits_from key i n) m) es
    ≡ under (bits_from key i n) (with_leaves k m es)
unfolding with_leaves
with_leaves-under key i n k h m [] s = refl
with_leaves-under key i n k h m (e ∷ es) s = grind (
  arith,
  bits_left-split e.key i n,
  insert-under
      (bits_from key i n) (last_bits e.key k) m e.value,
  with_leaves-under key i n k h
      (insert m (last_bits e.key k) e.value) es s.1,
)

under-empty : (bs : List Bool) → under bs empty ≡ empty
unfolding under
under-empty [] = refl
under-empty (b ∷ bs) = rw (under-empty bs, ← empty-is_join_at b)

pub empty_parted : (key : List ℕ) (i n : ℕ) (b : Bool) → empty ≡ under (bits_from key i n) (join_at b empty empty)
empty_parted key i n b = rw (← empty-is_join_at b) (sym (under-empty (bits_from key i n)))

-- the leaf inserted last
pub with_leaves-push : (k : ℕ) (m : SparseMap) (es : List Lone) (e : Lone) → with_leaves k m (es ++ e ∷ [])
    ≡ insert (with_leaves k m es) (last_bits e.key k) e.value
unfolding with_leaves
with_leaves-push k m [] e = refl
with_leaves-push k m (x ∷ es) e = with_leaves-push k (insert m (last_bits x.key k) x.value) es e

with_leaves-again : (k : ℕ) (key : List ℕ) (m : SparseMap) (es : List Lone) (v : List ℕ) → ShareBits key (256 - k) k es
    → insert (with_leaves k m es) (last_bits key k) v ≡ insert m (last_bits key k) v
unfolding with_leaves
with_leaves-again k key m [] v s = refl
with_leaves-again k key m (e ∷ es) v s =
    rw (with_leaves-again k key (insert m (last_bits e.key k) e.value) es v s.1, s.0, insert-again)

-- all leaves are of one key
pub one_key : {es : List Lone} (fs : List Lone) (e : Lone) (depth : ℕ) → es ≡ fs ++ e ∷ [] → depth ≤ 256
    → ShareBits e.key depth (256 - depth) es → with_leaves (256 - depth) empty es
    ≡ insert empty (last_bits e.key (256 - depth)) e.value
one_key fs e depth is le s =
    let k : 256 - (256 - depth) ≡ depth = omega (arith, le) in
    rw (is, with_leaves-push (256 - depth) empty fs e)
    (with_leaves-again (256 - depth) e.key empty fs e.value (rw k (all_parts _ fs (e ∷ []) (rw is at s)).0))

-- keys that are held
pub with_leaves-held : (k : ℕ) (m : SparseMap) (es : List Lone) (q : List Bool) → contains_key m q ≡ true
    → contains_key (with_leaves k m es) q ≡ true
unfolding with_leaves
with_leaves-held k m [] q h = h
with_leaves-held k m (e ∷ es) q h = with_leaves-held k (insert m (last_bits e.key k) e.value) es q
    (held_after m (last_bits e.key k) q e.value h)

pub with_leaves-holds : (k : ℕ) (m : SparseMap) (es : List Lone) → HoldsKey m ⊎ (0 < length es)
    → HoldsKey (with_leaves k m es)
unfolding with_leaves
with_leaves-holds k m es (inl h) = (h.0, with_leaves-held k m es h.0 h.1)
with_leaves-holds k m [] (inr h) = absurd (omega arith)
with_leaves-holds k m (e ∷ es) (inr h) = (
  last_bits e.key k,
  grind
      (arith, with_leaves-held, contains_key-insert_same),
)

-- how many keys are held
pub len-with_leaves : (k : ℕ) (m : SparseMap) (es : List Lone) → (len m ≤ len (with_leaves k m es))
    × (len (with_leaves k m es) ≤ len m + length es)
unfolding with_leaves
len-with_leaves k m [] = (omega arith, omega arith)
len-with_leaves k m (e ∷ es) =
    let h = len-with_leaves k (insert m (last_bits e.key k) e.value) es in
    let one = len-insert bits_total m (last_bits e.key k) e.value in
    (grind (arith, h.0, one), grind (arith, h.1, one))

-- the last leaf
pub split_at_last : {n : ℕ} {e : Lone} (es : List Lone) → n ≡ length es → 0 < length es → e ≡ get_or es (n - 1) e → es
    ≡ take (n - 1) es ++ e ∷ []
split_at_last {n} {e} es len some is = grind (arith, take_all, take_more)

pub share_last : {es : List Lone} (key : List ℕ) (i n : ℕ) (fs : List Lone) (e : Lone) → es ≡ fs ++ e ∷ []
    → ShareBits key i n es → ShareBits e.key i n es
share_last key i n fs e is share = rw (all_parts _ fs (e ∷ []) (rw is at share)).1.0 share

-- the side of the last leaf's key
pub near_some : {zs : List Lone} {n : ℕ} {e : Lone} {key : List ℕ} {b : Bool} (es : List Lone) (at : ℕ) → n ≡ length es
    → 0 < length es → e ≡ get_or es (n - 1) e → key ≡ e.key → b ≡ bit_at key at → zs ≡ on_side at b es → 0 < length zs
near_some {n} {e} es at len some is ek bit z = grind (arith, split_at_last es len some is, push_near, length_push)

-- one leaf more
pub apart_step : (key : List ℕ) (i bound old new : ℕ) (es : List Lone) (e : Lone)
    → (old < bound → 0 < length (on_side (i + old) (not (bit_at key (i + old))) es)) → new ≤ old
    → (new < old → ¬ (bit_at key (i + new) ≡ bit_at e.key (i + new))) → new < bound
    → 0 < length (on_side (i + new) (not (bit_at key (i + new))) (es ++ e ∷ []))
apart_step key i bound old new es e was le apart lt = grind
    (arith, push_far, length_push, on_side-push, length-append, cases_lt)

pub levels-with_leaves : (m : SparseMap) (es : List Lone) → HasLevels 256 m → HasLevels 256 (with_leaves 256 m es)
unfolding with_leaves
levels-with_leaves m [] h = h
levels-with_leaves m (e ∷ es) h = levels-with_leaves (insert m (last_bits e.key 256) e.value) es
    (levels-insert m (last_bits e.key 256) e.value (length-last_bits e.key 256) h)
