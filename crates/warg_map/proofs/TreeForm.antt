-- The form of the tree.
use Rattle.std.proofs.Common.{◌≡◌, ℕ, ◌+◌, ◌-◌, ◌<◌, Bool, true, false, List, [], ◌∷◌, ◌++◌, length, cond, refl, arith, inl, inr}
use Rattle.std.specs.FinMap.{insert, empty, contains_key, get-insert, get-empty}
use Rattle.std.specs.declared.rc.Rc.{Rc}
use Rattle.warg_map.specs.declared.node.Node.{Node}
use Rattle.warg_map.specs.declared.node.Node.TheVariants.{Fork, Singleton, Stem, Empty}
use Rattle.warg_map.specs.declared.node.Stem.{Stem as Stem'}
use Rattle.warg_map.specs.declared.node.Fork.{Fork as Fork'}
use Rattle.warg_map.specs.Bits.{bits_from, last_bits}
use Rattle.warg_map.specs.Sparse.{SparseMap, bits_cmp}
use Rattle.warg_map.specs.Private.Under.{join_at, under, HoldsKey, Splits}
use Rattle.warg_map.specs.Private.Seen.{seen, IsWellFormed, IsSeen, IsStemOver, IsBelow, MayCarry}
use Rattle.warg_map.proofs.SparseTree.{bits_total, tied, get-join_true, get-join_false, contains_key-insert_same}
use Rattle.warg_map.proofs.BitsInFront.{under-append, under-none, under_same, lone-append, get-under_head, no_some}
use Rattle.warg_map.proofs.KeyBits.{length-bits_from, bits_from-none, bits_from-append, bits_left-split, last_bits-at}

-- a node by what was read out of its variant
pub of_content : {X A N : Type 0} (variant : Rc X A → N) {n : N} {rc : Rc X A} {x : X} → n ≡ variant rc → x ≡ rc.value
    → n ≡ variant (record rc { value = x })
of_content variant is e = rw (is, e)

-- what is held after an insertion, and by a lone key
pub held_after : (m : SparseMap) (p q : List Bool) (v : List ℕ) → contains_key m q ≡ true
    → contains_key (insert m p v) q ≡ true
held_after m p q v h = grind (arith, get-insert bits_total m p v q)

pub lone_only : (p q : List Bool) (v : List ℕ) → contains_key (insert
    (empty {K = List Bool} {X = List ℕ} {R = bits_cmp}) p v) q ≡ true → q ≡ p
lone_only p q v h = grind (arith, get-insert bits_total empty p v q, get-empty {X = List ℕ} bits_cmp q, tied q p)

-- what splits
pub splits_join : (b : Bool) (near far : SparseMap) → HoldsKey near → HoldsKey far → Splits (join_at b near far)
splits_join true near far n f = ((f.0, rw get-join_false f.1), (n.0, rw get-join_true n.1))
splits_join false near far n f = ((n.0, rw get-join_false n.1), (f.0, rw get-join_true f.1))

pub lone_no_split : (p : List Bool) (v : List ℕ) → ¬ Splits (insert empty p v)
lone_no_split p v s = let l = lone_only p _ v s.0.1 in let r = lone_only p _ v s.1.1 in cc

pub stem_no_split : (bs : List Bool) (m : SparseMap) → 0 < length bs → ¬ Splits (under bs m)
stem_no_split [] m h s = omega (arith, h)
stem_no_split (true ∷ bs) m h s = no_some _ (get-under_head false true bs s.0.0 m (λ e. cc)) s.0.1
stem_no_split (false ∷ bs) m h s = no_some _ (get-under_head true false bs s.1.0 m (λ e. cc)) s.1.1

pub stem_holds : (len : ℕ) (below : ℕ × SparseMap) → IsBelow len below → HoldsKey below.1
stem_holds len below (inl s) = (false ∷ s.0.0, s.0.1)
stem_holds len below (inr o) = (o.2.0, rw o.2.2 (contains_key-insert_same empty o.2.0 o.2.1))

-- what may stand below the bits of a new stem
stands_below : {D A : _} (node : Node D A) (key : List ℕ) (from len : ℕ) → IsWellFormed node
    → ((s : Rc (Stem' D A) A) → node ≡ Stem s → ⊥) → 0 < len → from + len + (seen node).0 ≡ 256
    → MayCarry key (seen node) → IsBelow len (seen node)
stands_below (Fork f) key from len w n z h b =
    inl (splits_join false f.value.left.1 f.value.right.1 w.formed.0 w.formed.1)
stands_below (Singleton s) key from len w n z h (inl t) = absurd (lone_no_split _ _ t)
stands_below (Singleton s) key from len w n z h (inr o) = inr (omega (arith, o.0, h, z), o.0, (_, _, refl))
stands_below (Stem s) key from len w n z h b = absurd (n s refl)
stands_below Empty key from len w n z h b = absurd (omega (arith, h, z))

-- a link with a stem above it
pub with_no_stem : (link : ℕ × SparseMap) (key : List ℕ) (from len : ℕ) → len ≡ 0 → link
    ≡ (link.0 + len, under (bits_from key from len) link.1)
with_no_stem link key from len h = let e : link.0 + 0 ≡ link.0 = omega arith in
    rw (h, bits_from-none key from, under-none link.1, e)

pub with_new_stem : {D A : _} {node : Node D A} {s : Stem' D A} {link : ℕ × SparseMap} (key : List ℕ) (from len : ℕ)
    → IsWellFormed node → seen node ≡ link → ((x : Rc (Stem' D A) A) → node ≡ Stem x → ⊥) → 0 < len
    → from + len + link.0 ≡ 256 → MayCarry key link → s ≡ record { key = key; from = from; len = len; below = link }
    → IsStemOver s (link.0 + len) (under (bits_from key from len) link.1)
with_new_stem {node} key from len w sn n z h below is = grind (arith, stands_below node key from len w n z)

pub with_longer_stem : {D A : _} {node : Node D A} {lower : Rc (Stem' D A) A} {s : Stem' D A} {link : ℕ × SparseMap}
    (key : List ℕ) (from len : ℕ) → node ≡ Stem lower → IsWellFormed node → seen node ≡ link → 0 < len
    → from + len + link.0 ≡ 256 → MayCarry key link → s ≡ record {
      key = key;
      from = from;
      len = len + lower.value.len;
      below = lower.value.below;
    } → IsStemOver s (link.0 + len) (under (bits_from key from len) link.1)
with_longer_stem {lower} {s} {link} key from len at_node wf sn z high below is =
    let w : IsWellFormed (Stem lower) = rw at_node at wf in
    let top : seen (Stem lower) ≡ link = rw at_node at sn in
    let k = lower.value.below.0 in
    let m = lower.value.below.1 in
    let l = lower.value.len in
    let own = bits_from lower.value.key lower.value.from l in
    let length_own : length own ≡ l = length-bits_from lower.value.key lower.value.from l in
    let h : from + len + (k + l) ≡ 256 = rw (← top) at high in
    let has : contains_key (under own m) (last_bits key (k + l)) ≡ true = grind (arith, stem_no_split own m) in
    let swap : k + l ≡ l + k = omega arith in
    let whole : last_bits key (k + l) ≡ bits_from key (from + len) l ++ bits_from key (from + len + l) k = rw
    (last_bits-at key (from + len) (k + l) h, swap, bits_from-append key (from + len) l k) in
    let same : bits_from key (from + len) l ≡ own = grind (arith, under_same, length-bits_from) in
    let stands = elim w.formed.1 as (λ _. IsBelow (len + l) (k, m) × MayCarry key (k, m))
    [ inl s ↦ (inl s, inl s) | inr o ↦ absurd (omega (arith, o.0, o.1, z, h)) ] in
    grind (arith, bits_from-append, under-append)

-- a new fork
pub with_fork : {D A : _} {f : Rc (Fork' D A) A} (b : Bool) (near far : ℕ × SparseMap) → f.value
    ≡ record { left = cond b far near; right = cond b near far } → (near.0 ≡ far.0) × (near.0 < 256) → HoldsKey near.1
    × HoldsKey far.1 → IsSeen (Fork f) (near.0 + 1) (join_at b near.1 far.1)
with_fork true near far is level hold = grind arith
with_fork false near far is level hold = record {
  seen_as = rw is refl;
  well_formed = record { level = rw is level; formed = rw is hold };
}

-- a lone key with bits above it
pub lone_with_stem : {k : ℕ} {below l : ℕ × SparseMap} (key v : List ℕ) (from len : ℕ) → from + len + k ≡ 256 → below
    ≡ (k, insert empty (last_bits key k) v) → l ≡ (below.0 + len, under (bits_from key from len) below.1) → l
    ≡ (256 - from, insert empty (last_bits key (256 - from)) v)
lone_with_stem {k} key v from len h b e = grind (
  arith,
  bits_left-split key from len,
  lone-append
      (bits_from key from len) (last_bits key k) v,
)
