-- Leaves that are put below a node.
use Rattle.std.proofs.Common.{◌≡◌, ℕ, length, ◌+◌, ◌-◌, ◌<◌, ◌≤◌, Bool, true, false, not, List, [], ◌∷◌, refl, arith, ◌⊎◌, inl, inr}
use Rattle.std.specs.FinMap.{empty, insert, len-empty}
use Rattle.warg_map.specs.declared.grown.Filled.{Filled}
use Rattle.warg_map.specs.declared.node.Fork.{Fork as Fork'}
use Rattle.warg_map.specs.Bits.{bit_at, bits_from, last_bits}
use Rattle.warg_map.specs.Sparse.{SparseMap, bits_cmp}
use Rattle.warg_map.specs.Private.Lone.{Lone, held_alone}
use Rattle.warg_map.specs.Private.Under.{join, join_at, under, HoldsKey}
use Rattle.warg_map.specs.Private.Grown.{with_leaves, ShareBits, on_side, IsApart, IsPut, IsForkAt, IsBesideLeaves}
use Rattle.warg_map.specs.Private.Seen.{seen, MayCarry}
use Rattle.warg_map.proofs.BitsInFront.{under-append}
use Rattle.warg_map.proofs.NodeCounts.{len-join_at, len-lone, len-under}
use Rattle.warg_map.proofs.ManyLeaves.{with_leaves-join_at, with_leaves-under, with_leaves-held, with_leaves-holds, len-with_leaves}
use Rattle.warg_map.proofs.KeyBits.{bits_from-part}

-- what a tree holds once leaves are put into it
pub put_holds : {k m fresh : _} {link : ℕ × SparseMap} {es : List Lone} → IsPut k m es link fresh → HoldsKey m
    ⊎ (0 < length es) → (link.0 ≡ k) × HoldsKey link.1 × (fresh ≤ length es)
put_holds {k} {m} {es} p hold = grind (arith, with_leaves-holds k m es hold, len-with_leaves k m es)

-- on both sides of a bit
pub record IsPutBeside {D A : _} (b : Bool) (at : ℕ) (m : SparseMap) (es zs os : List Lone)
    (near far : Filled D A) : Type
    0 where
  pub same : near.link.0 ≡ far.link.0
  pub height : at + (near.link.0 + 1) ≡ 256
  pub hold : HoldsKey near.link.1 × HoldsKey far.link.1
  pub few : (near.fresh ≤ length zs) × (far.fresh ≤ length os)
  pub put : IsPut (256 - at) m es (near.link.0 + 1, join_at b near.link.1 far.link.1) (near.fresh + far.fresh)

pub put_beside : {D A at p q : _} {near far : Filled D A} {es zs os : List Lone} (b : Bool) → at < 256
    → IsPut (256 - (at + 1)) p zs near.link near.fresh → IsPut (256 - (at + 1)) q os far.link far.fresh → zs
    ≡ on_side at b es → os ≡ on_side at (not b) es → HoldsKey p ⊎ (0 < length zs) → HoldsKey q ⊎ (0 < length os)
    → IsPutBeside b at (join_at b p q) es zs os near far
put_beside {at} {p} {q} {es} {zs} {os} b lt n f z o hz ho = grind
    (arith, put_holds n hz, put_holds f ho, with_leaves-join_at, len-join_at, len-join_at b p q)

-- below bits that all share
pub put_below_bits : {D A m whole : _} {es : List Lone} {low all : Filled D A} (key : List ℕ) (i n : ℕ) → i + n ≤ 256
    → ShareBits key i n es → whole ≡ under (bits_from key i n) m → IsPut (256 - (i + n)) m es low.link low.fresh → all
    ≡ record { link = (low.link.0 + n, under (bits_from key i n) low.link.1); fresh = low.fresh }
    → IsPut (256 - i) whole es all.link all.fresh
put_below_bits {m} {es} key i n le share is p e =
    let k = 256 - (i + n) in
    let top : 256 - i ≡ 256 - (i + n) + n = omega (arith, le) in
    grind (arith, with_leaves-under, len-under)

-- where leaves part from the bits of a key
pub put_parted : {D A key i len_ n b p q : _} {es zs os : List Lone} {near far : Filled D A}
    → IsApart key i len_ es n b zs os → i + len_ ≤ 256 → IsPut (256 - (i + n + 1)) p zs near.link near.fresh
    → IsPut (256 - (i + n + 1)) q os far.link far.fresh → HoldsKey p ⊎ (0 < length zs)
    → IsPutBeside b (i + n) (join_at b p q) es zs os near far
put_parted {b} a le x y hold = put_beside b (omega (arith, a.less, le)) x y a.near_is a.far_is hold (inr a.some)

pub put_beside_leaves : {D A key i len_ n b p whole : _} {es zs os : List Lone} {near all : Filled D A}
    → IsApart key i len_ es n b zs os → i + len_ ≤ 256 → whole ≡ under (bits_from key i n) (join_at b p empty)
    → IsPut (256 - (i + n + 1)) p zs near.link near.fresh → HoldsKey p → IsBesideLeaves key i n b near os all
    → IsPut (256 - i) whole es all.link all.fresh
put_beside_leaves {D} {A} {key} {i} {n} {b} {near} a le is x hold w =
    let far : Filled D A = record { link = w.link; fresh = w.fresh } in
    let both = put_parted {far = far} a le x w.put (inl hold) in
    let fork : Filled D A = record {
      link = (near.link.0 + 1, join_at b near.link.1 w.link.1);
      fresh = near.fresh + w.fresh;
    } in
    put_below_bits {low = fork} key i n (omega (arith, a.less, le)) a.same is both.put
    (λ j. record { link = w.link_is j; fresh = w.fresh_is j })

-- the bits of a stem, cut at one of them
pub cut_stem : {at len_ : ℕ} {b : Bool} (key : List ℕ) (from n rest : ℕ) (m : SparseMap) → n < len_ → at ≡ from + n
    → rest + (n + 1) ≡ len_ → b ≡ bit_at key at → under (bits_from key from len_) m
    ≡ under (bits_from key from n) (join_at b (under (bits_from key (at + 1) rest) m) empty)
unfolding under
cut_stem {at} {len_} key from n rest m less place sum bit = grind (
  arith,
  bits_from-part key from n len_ less,
  under-append (bits_from key from n)
      (bit_at key (from + n) ∷ bits_from key (from + (n + 1)) (len_ - (n + 1))) m,
)

-- in an empty tree, where all leaves are of one key
pub put_one : {k n : ℕ} {es : List Lone} {l : ℕ × SparseMap} (key v : List ℕ) → with_leaves k empty es
    ≡ insert empty (last_bits key k) v → l ≡ (k, insert empty (last_bits key k) v) → n ≡ 1 → IsPut k empty es l n
put_one {k} key v only is one =
    let count = len-lone (last_bits key k) v in
    rw (is, one) (record { seen = rw only refl; count = omega (arith, count, len-empty bits_cmp (List ℕ)) })

-- no leaves
pub put_none : {k : ℕ} {l : ℕ × SparseMap} {es : List Lone} → es ≡ [] → l.0 ≡ k → IsPut k l.1 es l 0
unfolding with_leaves
put_none none h = rw (none, ← h) (record { seen = refl; count = omega arith })

-- behind a lone key
pub put_behind_lone : {s : Lone} {n : _} {es all : List Lone} {l : ℕ × SparseMap} (depth : ℕ) → s.height + depth ≡ 256
    → all ≡ s ∷ es → IsPut (256 - depth) empty all l n → (0 < n) × IsPut (256 - depth) (held_alone s) es l (n - 1)
unfolding with_leaves
put_behind_lone {s} {es} {l} depth sum a p =
    let k : 256 - depth ≡ s.height = omega (arith, sum) in
    let one = len-lone (last_bits s.key s.height) s.value in
    let none = len-empty bits_cmp (List ℕ) in
    let more = len-with_leaves s.height (held_alone s) es in
    let is_now : l ≡ (s.height, with_leaves s.height (held_alone s) es) = rw (k, a) at p.seen in
    let count = rw is_now at p.count in
    grind arith

-- at a fork
pub put_in_fork : {D A depth : _} {f : Fork' D A} {left right : Filled D A} {es zs os : List Lone} → IsForkAt depth f
    → (zs ≡ on_side depth false es) × (os ≡ on_side depth true es) → IsPut (256 - (depth + 1)) f.left.1 zs left.link
    left.fresh → IsPut (256 - (depth + 1)) f.right.1 os right.link right.fresh
    → IsPutBeside false depth (join f.left.1 f.right.1) es zs os left right
put_in_fork fork sides x y = put_beside false (omega (arith, fork.left_height)) x y sides.0 sides.1
    (inl fork.left_holds) (inl fork.right_holds)

pub carries_holds : (key : List ℕ) (below : ℕ × SparseMap) → MayCarry key below → HoldsKey below.1
carries_holds key below (inl s) = (false ∷ s.0.0, s.0.1)
carries_holds key below (inr o) = (last_bits key 255, o.1)

pub carries_more : {l : ℕ × SparseMap} {es : List Lone} {n : _} (key : List ℕ) (at : ℕ) (below : ℕ × SparseMap)
    → at + below.0 ≡ 256 → MayCarry key below → IsPut (256 - at) below.1 es l n → MayCarry key l
carries_more {es} key at below sum (inl s) p = grind (arith, with_leaves-held)
carries_more {es} key at below sum (inr o) p =
    inr (rw p.seen (omega (arith, sum, o.0), with_leaves-held (256 - at) below.1 es _ o.1))
