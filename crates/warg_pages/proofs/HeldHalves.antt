-- Where a page has no slot, the map holds nothing, and where it has one, something.
use Rattle.std.proofs.Common.{◌≡◌, ℕ, zero, suc, ◌+◌, ◌-◌, ◌*◌, ◌^◌, ◌<◌, ◌≤◌, Bool, true, false, not, ◌&&◌, leb, ltb, List, [], ◌∷◌, ◌++◌, length, take, drop, Option, Some, None, is_some, refl, sym, ap, ◌∙◌, arith, inl, inr, append_assoc, length-append, leb-true}
use Rattle.std.proofs.lemmas.Bool.{cases_lt, cases_Bool, false_from_ne_true, and_parts, ltb-true, lt-ltb, le-leb}
use Rattle.std.proofs.lemmas.List.{take-append-drop, length-take}
use Rattle.std.proofs.lemmas.List.Folds.{Any-from_list_any, list_any-from_Any}
use Rattle.std.specs.Bool.{then_some}
use Rattle.std.specs.Option.{option_map}
use Rattle.std.specs.FinMap.{get}
use Rattle.warg_crypto.specs.Tree.{leaf_digest}
use Rattle.warg_map.specs.Bits.{key_bits}
use Rattle.warg_map.specs.Last.{last_with, last_under}
use Rattle.warg_map.specs.Sparse.{root_of_levels, map_of}
use Rattle.warg_map.specs.Peers.{IsPeer}
use Rattle.warg_map.proofs.ForCallers.{same_bits-true, same_bits-itself, last_held, all_bits}
use Rattle.warg_pages.specs.Prefixes.{byte_bits, begins, is_below, below}
use Rattle.warg_pages.specs.Slots.{SlotAt, slot_over, slot_of, page_of}
use Rattle.warg_pages.specs.Pages.{digest_at, slot_height}
use Rattle.warg_pages.specs.PagePeers.{first_beside, page_peer, stands_among, optional_peer}
use Rattle.warg_pages.proofs.ByteNumbers.{number, number_below, byte_bits-number, number-byte_bits, number-beside, beside_bytes}
use Rattle.warg_pages.proofs.PageRoots.{own_byte_is, none_under, in_page, from_page, page_slot}
use Rattle.warg_pages.proofs.LastPassing.{last_found, none_is, some_last}
use Rattle.warg_pages.proofs.NumberedSlots.{byte_is}
use Rattle.warg_pages.proofs.BesideSlots.{beside_tree}
use Rattle.warg_pages.proofs.KeyPrefixes.{length-bits_from}

-- a slot has an insertion, and so a key below it
pub begins-rest : (p k : List Bool) → begins p k ≡ true → (q : List Bool) × (k ≡ p ++ q)
begins-rest [] k e = (k, refl)
begins-rest _ [] e = absurd cc
begins-rest (b ∷ p) (c ∷ k) e =
    let parts : (b ≡ c) × (begins p k ≡ true) = grind arith in
    let r = begins-rest p k parts.1 in
    (r.0, cc (parts.0, r.1))

pub held_key : (H : List ℕ → List ℕ) (p : List Bool) (es : List (List ℕ × List ℕ)) (e : List ℕ × List ℕ)
    → last_with (is_below H p) es ≡ Some e → (is_below H p e ≡ true)
    × (is_some (last_under H (key_bits H e.0) es) ≡ true)
held_key H p es e h = let found = last_found _ es e h in (
  found.1,
  some_last _ es found.0 (same_bits-itself (key_bits H e.0)),
)

is_some-map : {X Y : Type 0} (f : X → Y) (o : Option X) → is_some o ≡ true → is_some (option_map f o) ≡ true
is_some-map f o e = grind arith

module _ (H : List ℕ → List ℕ) (es : List (List ℕ × List ℕ)) (p : List Bool) (s : ℕ) where
  slot_holds : (last : Option (List ℕ × List ℕ)) (x : SlotAt) → last_with (is_below H p) es ≡ last
      → slot_over H es p s last ≡ Some x → (q : List Bool) × (is_some (below (map_of H es) p q) ≡ true)
  slot_holds None x l h = absurd cc
  slot_holds (Some e) x l h =
      let held = held_key H p es e l in
      let rest = begins-rest p _ held.0 in (
        rest.0,
        rw (last_held H _ es) (is_some-map _ _ (rw (← rest.1) held.1)),
      )

  -- no slot, no key
  pub no_slot : (last : Option (List ℕ × List ℕ)) → last_with (is_below H p) es ≡ last → slot_over H es p s last ≡ None
      → (q : List Bool) → below (map_of H es) p q ≡ None
  no_slot None l h q = last_held H _ es ∙ ap (option_map (λ (x : List ℕ × List ℕ). leaf_digest H x.1))
      (none_under H p q es l)
  no_slot _ l h q = absurd cc

pub short_bits : (H : List ℕ → List ℕ) (bits : List Bool) (es : List (List ℕ × List ℕ)) → ¬ (length bits ≡ 256)
    → last_under H bits es ≡ None
short_bits H bits es n = none_is _ es (λ x c. false_from_ne_true _
    (λ s. n (ap length (same_bits-true bits _ s) ∙ all_bits H x.0)))

-- the k bits of a number
bits_of : (k n : ℕ) → n < 2 ^ k → (r : List Bool) × (length r ≡ k) × (number r ≡ n)
unfolding number
bits_of zero n lt = ([], refl, omega arith)
bits_of (suc k) n lt = elim (cases_lt n (2 ^ k)) [
  | inl low ↦ (let r = bits_of k n low in (false ∷ r.0, ap suc r.1, omega arith))
  | inr high ↦ (let r = bits_of k (n - 2 ^ k) (omega arith) in
      (true ∷ r.0, ap suc r.1, rw (r.1, r.2) (omega arith)))
]

-- the bits below a slot, in two ways
same_way : (p a r q : List Bool) (b : Bool) (t : ℕ) → byte_bits t ≡ a ++ b ∷ r → (p ++ byte_bits t) ++ q
    ≡ p ++ (a ++ b ∷ (r ++ q))
same_way p a r q b t e = rw (e, append_assoc p (a ++ b ∷ r) q, append_assoc a (b ∷ r) q) refl

-- a slot there holds something, and where there is none, nothing is held
some_half : (H : List ℕ → List ℕ) (es : List (List ℕ × List ℕ)) (p a : List Bool) (b : Bool) (first k : ℕ)
    → ((r : List Bool) → length r ≡ k → (first + number r ≡ number (a ++ b ∷ r))
    × (byte_bits (number (a ++ b ∷ r)) ≡ a ++ b ∷ r))
    → stands_among (page_of H es p) first k ≡ true → (q : List Bool)
    × (is_some (get (map_of H es) (p ++ (a ++ b ∷ q))) ≡ true)
some_half H es p a b first k there some =
    let f = Any-from_list_any _ _ some in
    let x = f.1 in
    let at = from_page H es p x (f.0, f.2, f.3) in
    let parts = and_parts _ _ f.4 in
    let ge = leb-true first x.byte parts.0 in
    let below_end = ltb-true x.byte (first + 2 ^ k) parts.1 in
    let r = bits_of k (x.byte - first) (omega arith) in
    let byte : number (a ++ b ∷ r.0) ≡ x.byte = let sum = (there r.0 r.1).0 in let rest = r.2 in omega arith in
    let way : byte_bits x.byte ≡ a ++ b ∷ r.0 = sym (ap byte_bits byte) ∙ (there r.0 r.1).1 in
    let held = slot_holds H es _ x.byte _ x refl at.is_slot in
    (r.0 ++ held.0, rw (← same_way p a r.0 held.0 b x.byte way) held.1)

none_half : (H : List ℕ → List ℕ) (es : List (List ℕ × List ℕ)) (p a r q : List Bool) (b : Bool) (first k t : ℕ)
    → byte_bits t ≡ a ++ b ∷ r → first ≤ t → t < first + 2 ^ k → t < 256
    → stands_among (page_of H es p) first k ≡ false → get (map_of H es) (p ++ (a ++ b ∷ (r ++ q))) ≡ None
none_half H es p a r q b first k t way ge lt byte none = by_slot _ refl
  where
    by_slot : (o : Option SlotAt) → slot_of H es p t ≡ o → get (map_of H es) (p ++ (a ++ b ∷ (r ++ q))) ≡ None
    by_slot None h = ap (get (map_of H es)) (sym (same_way p a r q b t way))
        ∙ no_slot H es _ t _ refl h q
    by_slot (Some x) h =
        let c = in_page H es p t byte h in
        let at = byte_is _ (own_byte_is H es p) h in
        let one = le-leb first x.byte (omega arith) in
        let two = lt-ltb x.byte (first + 2 ^ k) (omega arith) in
        let some = list_any-from_Any (λ y. leb first y.byte && ltb y.byte (first + 2 ^ k)) _
        (c.0, x, c.1, c.2, rw (one, two) refl) in
        absurd cc

-- the law
pub half_peer : (H : List ℕ → List ℕ) (es : List (List ℕ × List ℕ)) (p a c : List Bool) (b : Bool) (depth s : ℕ)
    → depth < 32 → length p ≡ 8 * depth → s < 256 → byte_bits s ≡ a ++ b ∷ c
    → IsPeer H None (length c + slot_height depth) (λ q. get (map_of H es) (p ++ (a ++ not b ∷ q)))
    (optional_peer H depth (page_of H es p) s (length c))
half_peer H es p a c b depth s lt n byte e =
    elim (cases_Bool (stands_among (page_of H es p) (first_beside s (length c)) (length c))) [
      | inl some ↦ inr (
        ap (λ t. then_some t (page_peer H depth (page_of H es p) s (length c))) some ∙ ap Some root,
        holds some,
      )
      | inr none ↦ inl (ap (λ t. then_some t (page_peer H depth (page_of H es p) s (length c))) none, empty none)
    ]
  where
    is : number (a ++ b ∷ c) ≡ s
    is = ap number (sym e) ∙ number-byte_bits s byte

    eight : length (a ++ b ∷ c) ≡ 8
    eight = ap length (sym e) ∙ length-bits_from (s ∷ []) 0 8

    root : page_peer H depth (page_of H es p) s (length c) ≡ root_of_levels H (length c + slot_height depth)
        (λ q. get (map_of H es) (p ++ (a ++ not b ∷ q)))
    root = rw is at (beside_tree H (slot_height depth) (digest_at H (slot_height depth) (page_of H es p))
        (below (map_of H es) p) a c b (λ q m. page_slot H es p q depth lt n m) eight)

    -- the slot of k bits there
    there : (r : List Bool) → length r ≡ length c → (first_beside s (length c) + number r ≡ number (a ++ not b ∷ r))
        × (byte_bits (number (a ++ not b ∷ r)) ≡ a ++ not b ∷ r) × (number r < 2 ^ length c)
    there r m = (
      rw is at (number-beside a c r b m),
      byte_bits-number (a ++ not b ∷ r) (rw (length-append a (not b ∷ r), m) (sym (length-append a (b ∷ c)) ∙ eight)),
      rw m at (number_below r),
    )

    holds : stands_among (page_of H es p) (first_beside s (length c)) (length c) ≡ true → (q : List Bool)
        × (is_some (get (map_of H es) (p ++ (a ++ not b ∷ q))) ≡ true)
    holds some = some_half H es p a (not b) (first_beside s (length c)) (length c)
        (λ r m. ((there r m).0, (there r m).1)) some

    empty : stands_among (page_of H es p) (first_beside s (length c)) (length c) ≡ false → (q : List Bool)
        → get (map_of H es) (p ++ (a ++ not b ∷ q)) ≡ None
    empty none q = elim (cases_lt (length q) (length c)) [
      | inl short ↦ (
          let few = length-append a (b ∷ c) in
          let all = length-append a (not b ∷ q) in
          let whole = length-append p (a ++ not b ∷ q) in
          let size = eight in
          last_held H (p ++ (a ++ not b ∷ q)) es ∙ ap (option_map (λ (x : List ℕ × List ℕ). leaf_digest H x.1))
          (short_bits H (p ++ (a ++ not b ∷ q)) es (λ same. omega arith)))
      | inr long ↦ (
          let m : length (take (length c) q) ≡ length c = let l = length-take (length c) q in omega arith in
          let r = there (take (length c) q) m in
          let t : ℕ = number (a ++ not b ∷ take (length c) q) in
          let sum = r.0 in
          let low = r.2 in
          let within = beside_bytes s (length c) byte (let few = length-append a (b ∷ c) in let size = eight in
          omega arith) in
          ap (λ u. get (map_of H es) (p ++ (a ++ not b ∷ u))) (sym (take-append-drop (length c) q))
          ∙ none_half H es p a (take (length c) q) (drop (length c) q) (not b) (first_beside s (length c))
          (length c) t r.1 (omega arith) (omega arith) (omega arith) none)
    ]
