-- Where the way down ends at a lone key.
use Rattle.std.proofs.Common.{◌≡◌, ℕ, zero, suc, ◌+◌, ◌-◌, ◌*◌, ◌<◌, ◌≤◌, Bool, true, false, not, List, [], ◌∷◌, ◌++◌, length, Option, Some, None, is_some, refl, sym, ap, ◌∙◌, arith, inl, inr, length-append, unwrap_or}
use Rattle.std.proofs.lemmas.List.{append_cancel_left}
use Rattle.std.specs.Prelude.{replicate}
use Rattle.warg_crypto.specs.EmptyTrees.{empty_root}
use Rattle.warg_crypto.specs.Tree.{input_beside}
use Rattle.warg_map.specs.Sparse.{root_of_levels}
use Rattle.warg_map.specs.Peers.{IsPeers}
use Rattle.warg_pages.specs.Private.Descents.{value_above, lone_root, HoldsAlone, StandsAlone, EndsAt, IsNoLoneKey}
use Rattle.warg_map.specs.Bits.{bit_at, bits_from, last_bits}
use Rattle.warg_map.proofs.ForCallers.{length-last_bits}
use Rattle.warg_pages.specs.Slots.{SlotAt}
use Rattle.warg_pages.specs.Pages.{slot_height}
use Rattle.warg_pages.proofs.KeyPrefixes.{length-bits_from}
use Rattle.warg_pages.proofs.PageFormat.{same_parts}
use Rattle.warg_pages.proofs.BitParts.{key_at, last_at, shared_from, shared_bit, other_bit_is}
use Rattle.warg_pages.proofs.ValuesAbove.{alone_root, value_above-empty, heads, tails}

-- the bits at which a key parts from a lone one, from both sides
fork : (H : List ℕ → List ℕ) (b : Bool) (x e : List ℕ) → H (input_beside b x e) ≡ H (input_beside (not b) e x)
fork H true x e = refl
fork H false x e = refl

pub parted_value : (H : List ℕ → List ℕ) (leaf y : List ℕ) (p r o : List Bool) (b : Bool) → length r ≡ length o
    → y ≡ value_above H 0 [] leaf o
    → value_above H 0 (replicate (length p) None ++ Some y ∷ []) (empty_root H 0) (p ++ b ∷ r) ≡ value_above H 0 [] leaf
    (p ++ not b ∷ o)
unfolding value_above
parted_value H leaf y [] r o b n e =
    let height : length r + 0 ≡ length o + 0 = omega arith in
    rw (value_above-empty H 0 r, e, height) (fork H b _ _)
parted_value H leaf y (c ∷ p) r o b n e =
    let height : length (p ++ b ∷ r) + 0 ≡ length (p ++ not b ∷ o) + 0 =
    rw (length-append p (b ∷ r), length-append p (not b ∷ o)) (omega arith) in
    rw (parted_value H leaf y p r o b n e, height) refl

-- the peers there
heads_back : (c : Bool) {q r : List Bool} → ¬ (c ∷ q ≡ not c ∷ r)
heads_back true e = cc e
heads_back false e = cc e

pub parted_peers : (H : List ℕ → List ℕ) (held : List Bool → Option (List ℕ)) (leaf y : List ℕ) (p r o : List Bool)
    (b : Bool) → length r ≡ length o → y ≡ value_above H 0 [] leaf o → HoldsAlone held (p ++ not b ∷ o) leaf
    → IsPeers H (λ k. None) held (p ++ b ∷ r) (replicate (length p) None ++ Some y ∷ [])
unfolding IsPeers
parted_peers H held leaf y [] r o b n e h = (
  inr (
    ap Some (e ∙ ap (λ t. value_above H 0 [] (unwrap_or t (empty_root H 0)) o) (sym h.this)
        ∙ sym (alone_root H (λ q. held (not b ∷ q)) o (λ q m. h.others _ (λ s. m (tails _ s))))
        ∙ ap (λ k. root_of_levels H k (λ q. held (not b ∷ q))) (sym n)),
    (o, ap is_some h.this),
  ),
  λ q m. h.others _ (heads_back b),
)
parted_peers H held leaf y (c ∷ p) r o b n e h = (
  inl (refl, λ q. h.others _ (heads c)),
  parted_peers H (λ q. held _) leaf y p r o b n e record {
    this = h.this;
    others = λ q m. h.others _ (λ s. m (tails c s));
  },
)

-- and those of the lone key itself
module _ (H : List ℕ → List ℕ) (held : List Bool → Option (List ℕ)) (leaf : List ℕ) (bits : List Bool)
    (h : HoldsAlone held bits leaf) where
  pub own_end : IsPeers H (λ k. None) held bits []
  unfolding IsPeers
  own_end = h.others

  pub alone_value : root_of_levels H (length bits) held ≡ value_above H 0 [] leaf bits
  alone_value = alone_root H held bits h.others
      ∙ ap (λ t. value_above H 0 [] (unwrap_or t (empty_root H 0)) bits) h.this

pub nothing_end : (H : List ℕ → List ℕ) (held : List Bool → Option (List ℕ)) (bits : List Bool)
    → ((q : List Bool) → held q ≡ None) → IsPeers H (λ k. None) held bits []
unfolding IsPeers
nothing_end H held bits none = λ q n. none q

-- the bits of a key below a slot, where a lone key with the same bits stands
rest_is : (key other : List ℕ) (depth : ℕ) {rest : List Bool} → depth < 32 → bits_from key 0 256 ≡ bits_from other 0 256
    → last_bits other 256 ≡ bits_from key 0 (8 * depth + 8) ++ rest → last_bits key (slot_height depth) ≡ rest
rest_is key other depth {rest} lt same begins =
    let height : 256 - (8 * depth + 8) ≡ slot_height depth = omega arith in
    append_cancel_left _ _ rest (ap (λ n. bits_from key 0 (8 * depth + 8) ++ last_bits key n) (sym height)
    ∙ sym (key_at key _ (omega arith)) ∙ same ∙ begins)

-- the end at the key itself
pub held_end : (H : List ℕ → List ℕ) (key : List ℕ) (depth index : ℕ) (slot : SlotAt) (lone : List ℕ × List ℕ)
    → depth < 32 → bits_from key 0 256 ≡ bits_from lone.0 0 256 → lone_root H key lone.1 (slot_height depth)
    ≡ slot.digest → index + 1 ≡ slot.version
    → EndsAt H key depth slot lone [] (Some (index, lone.1))
held_end H key depth index slot lone lt same root version = record {
  few = omega arith;
  leads = root;
  own = λ f stands.
      let rest : last_bits key (slot_height depth) ≡ stands.rest = rest_is key lone.0 depth lt same stands.begins in
      (rw rest (own_end H f lone.1 stands.rest stands.alone), rw rest stands.alone.this);
  index = (version, same);
}

-- the root of a lone key that stands alone
alone_digest : (H : List ℕ → List ℕ) {p : List Bool} {lone : List ℕ × List ℕ} {height : ℕ} {digest : List ℕ}
    {f : List Bool → Option (List ℕ)} (key : List ℕ) (stands : StandsAlone H p lone height digest f)
    → stands.rest ≡ last_bits key height → lone_root H key lone.1 height ≡ digest
alone_digest H {height = height} {f = f} key stands is =
    let size : length stands.rest ≡ height = rw is (length-last_bits key height) in
    rw (← is) (sym (rw size at (alone_value H f _ stands.rest stands.alone)) ∙ sym stands.is_root)

-- a lone key with this digest that has another root doesn't stand alone
pub held_no_end : (H : List ℕ → List ℕ) (key : List ℕ) (depth : ℕ) (slot : SlotAt) (lone : List ℕ × List ℕ) → depth < 32
    → bits_from key 0 256 ≡ bits_from lone.0 0 256 → ¬ (lone_root H key lone.1 (slot_height depth) ≡ slot.digest)
    → IsNoLoneKey H key depth slot lone
held_no_end H key depth slot lone lt same other f stands some =
    other (alone_digest H key stands (sym (rest_is key lone.0 depth lt same stands.begins)))

-- a lone key that parts from the digest
pub record Parting (key other : List ℕ) (depth shared : ℕ) : Type 0 where
  pub below : 8 * depth + 8 ≤ shared
  pub parts : shared < 256
  pub same : bits_from key 0 shared ≡ bits_from other 0 shared
  pub apart : ¬ (bit_at key shared ≡ bit_at other shared)

-- the bits of both, below the slot
module _ {key other : List ℕ} {depth shared : ℕ} (h : Parting key other depth shared) where
  abbrev front : List Bool
  front = bits_from key (8 * depth + 8) (shared - (8 * depth + 8))

  below_slot : (k : List ℕ) → last_bits k (slot_height depth)
      ≡ bits_from k (8 * depth + 8) (shared - (8 * depth + 8)) ++ bit_at k shared ∷ last_bits k (255 - shared)
  below_slot k =
      let parts = h.parts in
      let below = h.below in
      let height : slot_height depth ≡ 256 - (8 * depth + 8) = omega arith in
      rw height (last_at k _ shared below parts)

  other_parts : last_bits other (slot_height depth) ≡ front ++ not (bit_at key shared) ∷ last_bits other (255 - shared)
  other_parts =
      let same = (shared_from key other _ shared h.below h.same).1 in
      let bit = other_bit_is (bit_at key shared) (bit_at other shared) h.apart in
      rw (below_slot other, ← same, bit) refl

  other_rest : {rest : List Bool} → last_bits other 256 ≡ bits_from key 0 (8 * depth + 8) ++ rest
      → rest ≡ last_bits other (slot_height depth)
  other_rest {rest} begins =
      let below = h.below in
      let height : 256 - (8 * depth + 8) ≡ slot_height depth = omega arith in
      let first = (shared_from key other _ shared below h.same).0 in
      append_cancel_left _ rest _
      (sym begins ∙ key_at other _ (omega arith) ∙ (λ i. sym first i ++ last_bits other (height i)))

-- as many as they are
length-replicate : (n : ℕ) → length (replicate {A = Option (List ℕ)} n None) ≡ n
length-replicate zero = refl
length-replicate (suc n) = ap suc (length-replicate n)

-- the further peers there
abbrev pub parting_peers : ℕ → List ℕ → List (Option (List ℕ))
parting_peers n tree = replicate n None ++ Some tree ∷ []

module _ (H : List ℕ → List ℕ) (key : List ℕ) (depth shared : ℕ) (slot : SlotAt) (lone : List ℕ × List ℕ) where
  pub parted_end : (tree : List ℕ) → Parting key lone.0 depth shared → tree ≡ lone_root H lone.0 lone.1 (255 - shared)
      → lone_root H lone.0 lone.1 (slot_height depth) ≡ slot.digest
      → EndsAt H key depth slot lone (parting_peers (shared - (8 * depth + 8)) tree) None
  parted_end tree h is root =
      record {
        few = rw (
          length-append _ _,
          length-replicate _,
        ) (omega arith);
        leads = rw (below_slot h key) (ap (λ n. value_above H 0 (parting_peers n tree) (empty_root H 0)
            (front h ++ bit_at key shared ∷ last_bits key (255 - shared))) (sym size)
            ∙ parted_value H lone.1 tree (front h) _ _ _ sizes is
            ∙ ap (value_above H 0 [] lone.1) (sym (other_parts h)) ∙ root);
        own = own;
        index = tt;
      }
    where
      size : length (front h) ≡ shared - (8 * depth + 8)
      size = length-bits_from key _ _

      sizes : length (last_bits key (255 - shared)) ≡ length (last_bits lone.0 (255 - shared))
      sizes = length-last_bits key _ ∙ sym (length-last_bits lone.0 _)

      own : (f : List Bool → Option (List ℕ)) → StandsAlone H (bits_from key 0 (8 * depth + 8)) lone
          (slot_height depth) slot.digest f
          → IsPeers H (λ k. None) f (last_bits key (slot_height depth)) (parting_peers (shared - (8 * depth + 8)) tree)
          × (f (last_bits key (slot_height depth)) ≡ None)
      own f stands =
          let alone = rw (other_rest h stands.begins ∙ other_parts h) at stands.alone in
          let peers = parted_peers H f lone.1 tree (front h) _ _ _ sizes is alone in (
            rw (below_slot h key) (rw size at peers),
            rw (below_slot h key) (alone.others _ (λ e. heads_back _ (append_cancel_left (front h) _ _ e))),
          )

  pub parted_no_end : Parting key lone.0 depth shared → ¬ (lone_root H lone.0 lone.1 (slot_height depth) ≡ slot.digest)
      → IsNoLoneKey H key depth slot lone
  parted_no_end h other f stands some =
      other (alone_digest H lone.0 stands (other_rest h stands.begins))

  -- a lone key that doesn't begin with its slot's prefix
  pub other_prefix : depth < 32 → shared < 8 * depth + 8 → ¬ (bit_at key shared ≡ bit_at lone.0 shared)
      → IsNoLoneKey H key depth slot lone
  other_prefix lt less apart f stands some =
      let first = same_parts _ _ _ stands.rest (length-bits_from lone.0 0 _
      ∙ sym (length-bits_from key 0 _)) (sym (key_at lone.0 _ (omega arith)) ∙ stands.begins) in
      apart (sym (shared_bit lone.0 key _ shared less first.0))

pub replicate-more : (n : ℕ) → replicate {A = Option (List ℕ)} n None ++ None ∷ [] ≡ replicate (n + 1) None
replicate-more n = let all : n + 1 ≡ suc n = omega arith in snoc n ∙ ap (λ m. replicate m None) (sym all)
  where
    snoc : (n : ℕ) → replicate {A = Option (List ℕ)} n None ++ None ∷ [] ≡ replicate (suc n) None
    snoc zero = refl
    snoc (suc n) = ap (λ t. None ∷ t) (snoc n)
