-- The peers that are collected on the way down.
use Rattle.std.proofs.Common.{◌≡◌, ℕ, zero, suc, ◌+◌, ◌-◌, ◌<◌, ◌≤◌, Bool, true, false, cond, not, List, [], ◌∷◌, ◌++◌, length, Option, Some, None, is_some, refl, sym, ap, ◌∙◌, arith, add-one, inl, inr, IsTrue, append_assoc, length-append}
use Rattle.std.proofs.lemmas.List.{reverse-append, length-reverse, append-nil, append_cancel_left, length_push}
use Rattle.std.proofs.lemmas.Bool.{ne_eqb}
use Rattle.std.specs.Prelude.{reverse, IsSome, MatchOption}
use Rattle.std.specs.Bool.{then_some}
use Rattle.std.specs.FinMap.{insert, empty, contains_key, get, get-empty}
use Rattle.std.specs.declared.rc.Rc.{Rc}
use Rattle.warg_map.specs.Messages.{Peers}
use Rattle.warg_map.specs.declared.node.Node.{Node}
use Rattle.warg_map.specs.declared.node.Node.TheVariants.{Fork}
use Rattle.warg_map.specs.declared.node.Fork.{Fork as Fork'}
use Rattle.warg_map.specs.declared.walk.Asked.{Asked}
use Rattle.warg_map.specs.Bits.{bit_at, last_bits, bits_from}
use Rattle.warg_map.specs.Sparse.{SparseMap, bits_cmp, sparse_root}
use Rattle.warg_map.specs.Private.Under.{join_at, under, HoldsKey}
use Rattle.warg_map.specs.Private.Seen.{tree_height, held_by, seen, IsWellFormed, IsBelow}
use Rattle.warg_map.specs.Private.Walk.{answer_of, empty_half, empty_halves, Reaches, lone_count, Collects}
use Rattle.warg_map.specs.Peers.{IsPeer, IsPeers, IsPeerCount, Proves, ProvesAbsent, ProvesEmpty, shared}
use Rattle.warg_map.proofs.SparseTree.{get-join_at, get-join_far, head_differs}
use Rattle.warg_map.proofs.BitsInFront.{join_at-other, get-under, get-under_head, under-append, holds-under, only-under, no_some, same_or_other, lone-under}
use Rattle.warg_map.proofs.TreeForm.{lone_only, stem_holds}
use Rattle.warg_map.proofs.FoundInNode.{get-lone_other, IsRun, IsApart}
use Rattle.warg_map.proofs.KeyBits.{length-bits_from, length-last_bits, last_bits-first, bits_left-split, last_bits-at}

-- an answer says whether a leaf digest is held
answered : {held : Bool} (H : List ℕ → List ℕ) (asked : Asked) (leaf : Option (List ℕ)) → Some held
    ≡ answer_of H asked leaf → is_some leaf ≡ held
answered H asked leaf e = grind arith

-- bits that part at once, and later
shared_other : (b : Bool) (p q : List Bool) → shared (b ∷ p) (not b ∷ q) ≡ 0
shared_other true p q = refl
shared_other false p q = refl

shared-append : (a p q : List Bool) → shared (a ++ p) (a ++ q) ≡ length a + shared p q
shared-append [] p q = omega arith
shared-append (true ∷ a) p q = omega (arith, shared-append a p q)
shared-append (false ∷ a) p q = omega (arith, shared-append a p q)

-- there are no more peers than bits
pub few_peers : (H : List ℕ → List ℕ) (half : ℕ → Option (List ℕ)) (held : List Bool → Option (List ℕ))
    (bits : List Bool) (os : Peers) → IsPeers H half held bits os → length os ≤ length bits
unfolding IsPeers
few_peers H half held bits [] h = omega arith
few_peers H half held [] (o ∷ os) h = absurd h
few_peers H half held (b ∷ bits) (o ∷ os) h = let e = few_peers H half (λ q. held (b ∷ q)) bits os h.1 in
    omega (arith, e)

pub few_collected : (H : List ℕ → List ℕ) (half : ℕ → Option (List ℕ)) (held : List Bool → Option (List ℕ))
    (bits : List Bool) (peers : Peers) → IsPeers H half held bits (reverse peers) → length bits ≡ 256
    → length peers ≤ 256
few_collected H half held bits peers h n = omega (
  arith,
  few_peers H half held bits (reverse peers) h,
  length-reverse peers,
  n,
)

-- other bits that are held share fewer bits than there are peers
shares_fewer : (H : List ℕ → List ℕ) (half : ℕ → Option (List ℕ)) (held : List Bool → Option (List ℕ))
    (bits : List Bool) (os : Peers) → IsPeers H half held bits os → (q : List Bool) → IsTrue (is_some (held q))
    → ¬ (q ≡ bits) → shared bits q < length os
unfolding IsPeers
shares_fewer H half held bits [] h q s n = absurd (no_some _ (h q n) s)
shares_fewer H half held [] (o ∷ os) h q s n = absurd h
shares_fewer H half held (b ∷ bits) (o ∷ os) h [] s n = omega arith
shares_fewer H half held (b ∷ bits) (o ∷ os) h (c ∷ q) s n = elim (same_or_other b c) [
  | inl e ↦ (let fewer = shares_fewer H half (λ r. held (b ∷ r)) bits os h.1 q (rw e at s) (λ x. n (cc)) in
      rw e (omega (arith, fewer, shared-append (b ∷ []) bits q)))
  | inr e ↦ rw (e, shared_other b bits q) (omega arith)
]

collected_count : {H held height m bits peers : _} → Collects H held height m bits peers
    → IsPeerCount (lone_count held height) m bits (length peers)
collected_count {H} {held} {m} {bits} {peers} c = grind (arith, shares_fewer, length-reverse)

-- what is collected in the whole tree proves what is held there
proves_found : {H m bits peers : _} (o : Option (List ℕ)) → get m bits ≡ o → Collects H (is_some o) 256 m bits peers
    → MatchOption o (ProvesAbsent H m bits peers) (λ _. Proves H 256 m bits peers)
proves_found None e c = record {
  absent = ap is_some e;
  peers_from_top = c.peers_from_top;
  count = collected_count c;
}
proves_found (Some v) e c = record {
  held = ap is_some e;
  peers_from_top = c.peers_from_top;
  count = collected_count c;
}

pub proves_asked : {child : ℕ × SparseMap} {m : SparseMap} (H : List ℕ → List ℕ) (asked : Asked) (o : Option Bool)
    (bits : List Bool) (peers : Peers) → child ≡ (256, m) → length bits ≡ 256 → o ≡ answer_of H asked (get child.1 bits)
    → MatchOption o (peers ≡ []) (λ held. Collects H held child.0 child.1 bits peers) → (length peers ≤ 256)
    × (IsSome o → ProvesEmpty H m bits peers)
proves_asked H asked None bits peers at n e c = (rw c (omega arith), λ is. absurd (cc is))
proves_asked {m} H asked (Some held) bits peers at n e c = grind (arith, is_some, answered, few_collected, proves_found)

-- one bit up
peers_up : {x : Option (List ℕ)} (H : List ℕ → List ℕ) (half : ℕ → Option (List ℕ)) (b : Bool) (near far : SparseMap)
    (p : List Bool) (ps : Peers) → IsPeer H (half (length p)) (length p) (get far) x
    → IsPeers H half (get near) p (reverse ps) → IsPeers H half (get (join_at b near far)) (b ∷ p)
    (reverse (ps ++ x ∷ []))
unfolding IsPeers
peers_up H half b near far p ps e h = rw (reverse-append ps (_ ∷ [])) (simp (get-join_far, get-join_at) (e, h))

reaches_up : (lone : ℕ) (b : Bool) (near far : SparseMap) (p : List Bool) (n : ℕ) → HoldsKey far → Reaches 0 near p n
    → Reaches lone (join_at b near far) (b ∷ p) (n + 1)
reaches_up lone b near far p n o (inl w) = inr (
  not b ∷ o.0,
  rw get-join_far o.1,
  head_differs b p o.0,
  omega (arith, shared_other b p o.0, w.0),
)
reaches_up lone b near far p n o (inr w) = inr (
  b ∷ w.0,
  rw get-join_at w.1,
  (λ e. w.2 (cc)),
  omega (arith, shared-append (b ∷ []) p w.0, w.3),
)

collects_up : {H held h near p ps : _} {b : Bool} {d : List ℕ} (k : ℕ) (far : SparseMap) → lone_count held k ≡ 0
    → HoldsKey far → d ≡ sparse_root H (length p) far → Collects H held k near p ps
    → Collects H held h (join_at b near far) (b ∷ p) (ps ++ Some d ∷ [])
collects_up {H} {held} {h} {near} {p} {ps} {b} {d} k far low o e c = grind (
  arith,
  peers_up H (empty_half H held) b near far p ps (inr (ap Some e, o)) c.peers_from_top,
  length_push ps
      (Some d),
  reaches_up (lone_count held h) b near far p (length ps) o,
)

-- a run of bits up
length-empty_halves : (half : ℕ → Option (List ℕ)) (k n : ℕ) → length (empty_halves half k n) ≡ n
unfolding empty_halves
length-empty_halves half k zero = refl
length-empty_halves half k (suc n) = rw (length_push, length-empty_halves half k n, add-one)

peers_below : (H : List ℕ → List ℕ) (half : ℕ → Option (List ℕ)) (a p : List Bool) (m : SparseMap) (ps : Peers)
    → IsPeers H half (get m) p (reverse ps) → IsPeers H half (get (under a m)) (a ++ p)
    (reverse (ps ++ empty_halves half (length p) (length a)))
unfolding under empty_halves
peers_below H half [] p m ps h = rw (append-nil ps) h
peers_below H half (b ∷ a) p m ps h =
    let at : length (a ++ p) ≡ length p + length a = (omega (arith, length-append a p)) in
    rw (← append_assoc ps (empty_halves half (length p) (length a)) _)
    (peers_up H half b (under a m) empty (a ++ p) (ps ++ empty_halves half (length p) (length a))
    (inl (ap half (sym at), get-empty bits_cmp)) (peers_below H half a p m ps h))

collects_under : {H held k p m ps : _} (h : ℕ) (a : List Bool) → (length ps ≡ lone_count held k →
    ((q : List Bool) → IsTrue (contains_key m q) → q ≡ p) → length ps + length a
    ≡ lone_count held h) → Collects H held k m p ps → Collects H held h (under a m) (a ++ p) (ps ++ empty_halves
    (empty_half H held) (length p) (length a))
collects_under {H} {held} {p} {m} {ps} h a lone c = record {
  peers_from_top = peers_below H (empty_half H held) a p m ps c.peers_from_top;
  reaches = rw (length-append ps _, length-empty_halves (empty_half H held) (length p) (length a)) (elim c.reaches [
    | inl w ↦ inl (lone w.0 w.1, λ q s. (let r = only-under a q m s in r.1 ∙ ap (λ t. a ++ t) (w.1 r.0 r.2)))
    | inr w ↦ inr (
      a ++ w.0,
      rw get-under w.1,
      (λ e. w.2 (append_cancel_left a w.0 p e)),
      (omega (arith, shared-append a p w.0, w.3)),
    )
  ]);
}

-- where others are held too, the bits are not lone
not_lone : {p : List Bool} (m : SparseMap) → HoldsKey m → contains_key m p ≡ false
    → ((q : List Bool) → IsTrue (contains_key m q) → q ≡ p) → ⊥
not_lone m o none only = let e : true ≡ false = sym o.1 ∙ ap (contains_key m) (only o.0 o.1) ∙ none in cc

lone_below : {p : List Bool} {n : ℕ} (held : Bool) (len k : ℕ) (m : SparseMap) → IsBelow len (k, m) → contains_key m p
    ≡ held → n ≡ lone_count held k → ((q : List Bool) → IsTrue (contains_key m q) → q ≡ p) → n + len
    ≡ lone_count held (k + len)
lone_below held len k m (inl s) is e only =
    absurd (let x = only (false ∷ s.0.0) s.0.1 ∙ sym (only (true ∷ s.1.0) s.1.1) in cc)
lone_below true len k m (inr o) is e only = rw (e, o.0, o.1)
lone_below false len k m (inr o) is e only = absurd (not_lone m (stem_holds len (k, m) (inr o)) is only)

pub collects_run : {whole height one from len : _} {below child : ℕ × SparseMap} (H : List ℕ → List ℕ) (asked : Asked)
    (o : Option Bool) (key : List ℕ) (ps new : Peers) → IsRun whole height one from len below.0 below.1
    → IsBelow len below → child ≡ below → bits_from one from len ≡ bits_from key from len → o
    ≡ answer_of H asked (get child.1 (last_bits key (256 - (from + len)))) → MatchOption o (ps ≡ [])
    (λ held. Collects H held child.0 child.1 (last_bits key (256 - (from + len))) ps)
    → MatchOption o (new ≡ ps) (λ held. new ≡ ps ++ empty_halves (empty_half H held) (256 - from - len) len)
    → MatchOption o (new ≡ []) (λ held. Collects H held height whole (last_bits key (256 - from)) new)
collects_run H asked None key ps new run formed at same answer c n = n ∙ c
collects_run {from} {len} {below} H asked (Some held) key ps new run formed at same answer c n =
    let la = length-bits_from key from len in
    let lp : length (last_bits key (256 - (from + len))) ≡ 256 - from - len = omega
    (arith, length-last_bits key (256 - (from + len))) in
    let up = collects_under (below.0 + len) (bits_from key from len)
    (λ e only. rw la (lone_below held len _ _ formed (answered H asked _ (rw at at answer)) e only)) (rw at at c) in
    grind (arith, bits_left-split)

-- a tree below the top has no peers beside a lone key
lone_low : (held : Bool) (k : ℕ) → k < 256 → lone_count held k ≡ 0
lone_low true k lt = rw (ne_eqb k 256 (λ e. omega (arith, lt, e)))
lone_low false k lt = refl

-- where nothing is held
collects_nothing : {H h p : _} → Collects H false h empty p []
unfolding IsPeers
collects_nothing = record {
  peers_from_top = λ q _. get-empty bits_cmp q;
  reaches = inl (refl, λ q c. absurd (no_some _ (get-empty bits_cmp q) c));
}

pub collects_none : {peers : Peers} (H : List ℕ → List ℕ) (b : Bool) (h : ℕ) (p : List Bool) → peers ≡ []
    → MatchOption (then_some b false) (peers ≡ []) (λ held. Collects H held h empty p peers)
collects_none H true h p e = rw e collects_nothing
collects_none H false h p e = e

-- beside bits that part
pub collects_beside : {H whole m height one key from len k j new : _} {d : List ℕ}
    → IsApart whole height one key from len k j m → d ≡ sparse_root H (k + (len - (j + 1)))
    (under (bits_from one (from + (j + 1)) (len - (j + 1))) m) → new ≡ Some d ∷ empty_halves (empty_half H false)
    (256 - from - j) j → Collects H false height whole (last_bits key (256 - from)) new
unfolding under
collects_beside {H} {m} {height} {one} {key} {from} {len} {k} {j} {d} parts de n =
    let rest = len - (j + 1) in
    let low = 256 - from - (j + 1) in
    let sum : 256 - from - (j + 1) ≡ k + (len - (j + 1)) = omega (arith, parts.run.whole, parts.less) in
    let a = bits_from key from j in
    let b = bit_at key (from + j) in
    let c = bit_at one (from + j) in
    let cs = bits_from one (from + (j + 1)) rest in
    let p = bits_from key (from + (j + 1)) low in
    let lp = length-bits_from key (from + (j + 1)) low in
    let lb : length (b ∷ p) ≡ 256 - from - j = omega (arith, lp, parts.run.whole, parts.less) in
    let base : Collects H false 0 (under (c ∷ cs) m) (b ∷ p) (Some d ∷ []) =
    rw (join_at-other b c (under cs m) empty parts.apart)
    (collects_up 0 (under cs m) refl (holds-under cs m parts.run.holds) (rw (lp, sum) de) collects_nothing) in
    let none : contains_key (under (c ∷ cs) m) (b ∷ p) ≡ false = rw (get-under_head b c cs p m parts.apart) refl in
    let up = collects_under height a
    (λ _ only. absurd (not_lone (under (c ∷ cs) m) (holds-under (c ∷ cs) m parts.run.holds) none only)) base in
    rw (n, parts.held_is, parts.bits_are, under-append a (c ∷ cs) m) (rw (lb, length-bits_from key from j) at up)

pub collects_apart : {o : Option Bool} {whole m height one key from len k j : _} (H : List ℕ → List ℕ) (b : Bool)
    (new : Peers) → IsApart whole height one key from len k j m → o ≡ then_some b false
    → MatchOption o (new ≡ []) (λ _. new ≡ Some
    (sparse_root H (k + (len - (j + 1))) (under (bits_from one (from + (j + 1)) (len - (j + 1))) m)) ∷ empty_halves
    (empty_half H false) (256 - from - j) j) → MatchOption o (new ≡ []) (λ held. Collects H held height whole (last_bits
    key (256 - from)) new)
collects_apart H true new parts e n = rw e (collects_beside parts refl (rw e at n))
collects_apart H false new parts e n = rw e (rw e at n)

pub lone_far : {d : List ℕ} {low : ℕ} (H : List ℕ → List ℕ) (one v : List ℕ) (from len j : ℕ) → from + len ≡ 256
    → j < len → low ≡ len - (j + 1) → d ≡ sparse_root H low (insert empty (last_bits one low) v) → d
    ≡ sparse_root H (0 + (len - (j + 1))) (under (bits_from one (from + (j + 1)) (len - (j + 1))) (insert empty [] v))
lone_far {low} H one v from len j sum less e de = grind (arith, lone-under, last_bits-at)

-- at a lone key
pub collects_at_lone : {H whole height one from len new : _} (key v : List ℕ)
    → IsRun whole height one from len 0 (insert empty [] v) → height < 256 → last_bits key (256 - from)
    ≡ bits_from one from len → new ≡ [] → Collects H true height whole (last_bits key (256 - from)) new
unfolding IsPeers
collects_at_lone {height} {one} {from} {len} key v run lt at n =
    let p = bits_from one from len in
    grind (arith, lone-under p v, get-lone_other p v, lone_low true height lt, lone_only)

-- in a fork
in_fork : {D A H held p ps : _} {f : Rc (Fork' D A) A} {d : List ℕ} {child x : ℕ × SparseMap} (b : Bool)
    → IsWellFormed (Fork f) → length p ≡ f.value.left.0 → child ≡ (cond b f.value.right f.value.left) → x
    ≡ (cond (not b) f.value.right f.value.left) → d ≡ sparse_root H x.0 x.1 → Collects H held child.0 child.1 p ps
    → Collects H held (tree_height (Fork f)) (held_by (Fork f)) (b ∷ p) (ps ++ Some d ∷ [])
in_fork {held} {f} true wf len ce xe e c =
    collects_up f.value.right.0 f.value.left.1
    (lone_low held f.value.right.0 (omega (arith, wf.level.0, wf.level.1))) wf.formed.0 (rw len (rw xe at e))
    (rw ce at c)
in_fork {held} {f} false wf len ce xe e c =
    collects_up f.value.left.0 f.value.right.1
    (lone_low held f.value.left.0 wf.level.1) wf.formed.1 (rw (len, wf.level.0) (rw xe at e)) (rw ce at c)

pub collects_fork : {D A : _} {old : Node D A} {f : Rc (Fork' D A) A} {b : Bool} {d : List ℕ} {x : ℕ × SparseMap}
    (H : List ℕ → List ℕ) (o : Option Bool) (child : Node D A) (key : List ℕ) (depth : ℕ) (ps new : Peers) → old
    ≡ Fork f → IsWellFormed old → tree_height old + depth ≡ 256 → b ≡ bit_at key depth → seen child
    ≡ (cond b f.value.right f.value.left) → x ≡ (cond (not b) f.value.right f.value.left) → d ≡ sparse_root H x.0 x.1
    → MatchOption o (ps ≡ []) (λ held. Collects H held (tree_height child) (held_by child)
    (last_bits key (256 - (depth + 1))) ps) → MatchOption o (new ≡ ps) (λ held. new
    ≡ ps ++ Some d ∷ []) → MatchOption o (new ≡ []) (λ held. Collects H held (tree_height old) (held_by old)
    (last_bits key (256 - depth)) new)
collects_fork H None child key depth ps new is wf height e ce xe de c n = n ∙ c
collects_fork {f} {b} H (Some held) child key depth ps new is wf height e ce xe de c n =
    let h : f.value.left.0 + 1 + depth ≡ 256 = rw is at height in
    let len : length (last_bits key (256 - (depth + 1))) ≡ f.value.left.0 =
    (omega (arith, length-last_bits key (256 - (depth + 1)), h)) in
    rw (is, n, last_bits-first key depth (omega (arith, h)), ← e)
    (in_fork b (rw is at wf) len ce xe de c)
