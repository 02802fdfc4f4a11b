-- A visit comes to each page once, and to each lone key.
use Rattle.std.proofs.Common.{◌≡◌, ◌≢◌, ⊎_elim, ◌⊎◌, ℕ, zero, suc, ◌+◌, ◌<◌, true, false, List, [], ◌∷◌, ◌++◌, length, take, drop, Option, Some, None, refl, sym, ap, subst, ◌∙◌, arith, append_assoc, length-append}
use Rattle.std.proofs.lemmas.List.{take-append-drop, append_cancel_left, take_all}
use Rattle.std.proofs.Math.Seq.{take-append_seam}
use Rattle.std.proofs.lemmas.List.Elements.{All-contains, All-append, All-cons}
use Rattle.std.proofs.lemmas.List.Elements.{Contains-append_cases}
use Rattle.std.proofs.lemmas.List.Kept.{AllPairs-filter}
use Rattle.std.proofs.lemmas.Grind.{flat_map-append}
use Rattle.std.specs.List.{All, AllPairs, Contains, filter, flat_map}
use Rattle.std.specs.Option.{is_some}
use Rattle.warg_crypto.specs.Digests.{IsByte}
use Rattle.warg_pages.specs.Slots.{SlotAt, IsSlot, IsPage, Ascends}
use Rattle.warg_pages.specs.ChangedPages.{ChangedPageAt}
use Rattle.warg_pages.specs.Visits.{IsLoneBelow, AreOfSlot, AreOfSlots, AreFromWhere, AreAllPages, lone_slots}
use Rattle.warg_registry.proofs.Listed.{none_there, first_is, first_there, later_there, of_one, there_cases, of_passed}
use Rattle.warg_registry.proofs.DistinctLists.{first_pair, later_pairs, pairs-append, pairs_then, one_alike}

-- a shorter prefix
begin_shorter : (prefix k : List ℕ) (t : ℕ) → take (length prefix + 1) k ≡ prefix ++ t ∷ []
    → take (length prefix) k ≡ prefix
begin_shorter prefix k t e = rw (sym (take-append-drop (length prefix + 1) k)
    ∙ ap (λ z. z ++ drop (length prefix + 1) k) e ∙ append_assoc prefix (t ∷ []) (drop (length prefix + 1) k))
    (take-append_seam prefix (t ∷ drop (length prefix + 1) k))

-- one byte behind a prefix
one_byte : (prefix : List ℕ) (s t : ℕ) → prefix ++ s ∷ [] ≡ prefix ++ t ∷ [] → s ≡ t
one_byte prefix s t e = let bytes = append_cancel_left prefix (s ∷ []) (t ∷ []) e in cc

-- the page of these slots
abbrev page : List ℕ → ℕ → List SlotAt → ChangedPageAt
page prefix version slots = record { prefix = prefix; version = version; page = slots }

module _ (H : List ℕ → List ℕ) (IsThere : List ℕ → ℕ → List SlotAt → Type 0) {I : Type 0}
    (items : ChangedPageAt → List I) (path : I → List ℕ) where
  -- two items have other paths
  abbrev Differ : I → I → Type 0
  Differ i j = path i ≢ path j

  -- of a page: its items' paths begin with its prefix, not with that of a page below it, and no two are one
  pub record IsApart (prefix : List ℕ) (slots : List SlotAt) (own : List I) : Type 0 where
    pub begin : (i : I) → Contains own i → take (length prefix) (path i) ≡ prefix
    pub off : (i : I) (z : SlotAt) → Contains own i → Contains slots z → z.lone ≡ None
        → take (length prefix + 1) (path i) ≡ prefix ++ z.byte ∷ [] → ⊥
    pub apart : AllPairs Differ own

  -- of the pages from a prefix on
  pub record AreApart (prefix : List ℕ) (pages : List ChangedPageAt) : Type 0 where
    pub bytes : (p : ChangedPageAt) → Contains pages p → All IsByte p.prefix × (length p.prefix < 32)
    pub begin : (i : I) → Contains (flat_map items pages) i → take (length prefix) (path i) ≡ prefix
    pub apart : AllPairs Differ (flat_map items pages)

  -- of those below slots
  record AreApartBelow (prefix : List ℕ) (slots : List SlotAt) (pages : List ChangedPageAt) : Type 0 where
    pub bytes : (p : ChangedPageAt) → Contains pages p → All IsByte p.prefix × (length p.prefix < 32)
    pub owner : (i : I) → Contains (flat_map items pages) i → (z : SlotAt) × Contains slots z × (z.lone ≡ None)
        × (take (length prefix + 1) (path i) ≡ prefix ++ z.byte ∷ [])
    pub apart : AllPairs Differ (flat_map items pages)

  nothing : (prefix : List ℕ) (slots : List SlotAt) → AreApartBelow prefix slots []
  nothing prefix slots = record {
    bytes = λ p c. absurd (none_there p c);
    owner = λ i c. absurd (none_there i c);
    apart = λ i j d lt within. absurd (omega arith);
  }

  one_more : (prefix : List ℕ) (x : SlotAt) (xs : List SlotAt) (first rest : List ChangedPageAt) → Ascends (x ∷ xs)
      → AreApartBelow prefix (x ∷ []) first → AreApartBelow prefix xs rest
      → AreApartBelow prefix (x ∷ xs) (first ++ rest)
  one_more prefix x xs first rest ascend one more = record {
    bytes = λ p c. ⊎_elim (one.bytes p) (more.bytes p) (Contains-append_cases first rest p c);
    owner = λ i c. ⊎_elim (λ here. let z = one.owner i here in
        (z.0, first_is xs (of_one x z.0 z.1), z.2, z.3))
        (λ later. let z = more.owner i later in (z.0, later_there xs z.0 x z.1, z.2, z.3)) (parts i c);
    apart = rw split
        (pairs-append Differ (flat_map items first) (flat_map items rest) one.apart more.apart clash);
  }
    where
      split : flat_map items (first ++ rest) ≡ flat_map items first ++ flat_map items rest
      split = flat_map-append items first rest

      parts : (i : I) → Contains (flat_map items (first ++ rest)) i
          → Contains (flat_map items first) i ⊎ Contains (flat_map items rest) i
      parts i c = Contains-append_cases (flat_map items first) (flat_map items rest) i
          (rw split at c)

      clash : (i j : I) → Contains (flat_map items first) i → Contains (flat_map items rest) j → path i ≢ path j
      clash i j c d = λ same.
          let y = one.owner i c in
          let z = more.owner j d in
          let byte = one_byte prefix y.0.byte z.0.byte (sym y.3 ∙ ap (take (length prefix + 1)) same ∙ z.3) in
          let lt = first_pair (λ a b. a.byte < b.byte) x xs z.0 ascend z.1 in
          let own : x.byte ≡ y.0.byte = ap (λ (a : SlotAt). a.byte) (of_one x y.0 y.1) in
          omega arith

  below_slots : (From : List ℕ → ℕ → List ℕ → List ChangedPageAt → Type 0) (prefix : List ℕ)
      → ((byte version : ℕ) (digest : List ℕ) (pages : List ChangedPageAt) → byte < 256
      → From (prefix ++ byte ∷ []) version digest pages → AreApart (prefix ++ byte ∷ []) pages)
      → (slots : List SlotAt) (pages : List ChangedPageAt) → Ascends slots → ((z : SlotAt) → Contains slots z
      → z.byte < 256)
      → AreOfSlots (IsLoneBelow H) From prefix slots pages → AreApartBelow prefix slots pages
  unfolding AreOfSlots
  below_slots From prefix deeper [] pages ascend bytes all = subst (AreApartBelow prefix []) (sym all)
      (nothing prefix [])
  below_slots From prefix deeper (x ∷ xs) pages ascend bytes all =
      rw all.2 (one_more prefix x xs all.0 all.1 ascend
      (one x.lone all.0 refl all.3)
      (below_slots From prefix deeper xs all.1 (later_pairs (λ a b. a.byte < b.byte) x xs ascend)
      (λ z c. bytes z (later_there xs z x c)) all.4))
    where
      size : length (prefix ++ x.byte ∷ []) ≡ length prefix + 1
      size = length-append prefix (x.byte ∷ [])

      one : (o : Option (List ℕ × List ℕ)) (first : List ChangedPageAt) → x.lone ≡ o
          → AreOfSlot (IsLoneBelow H) From prefix x o first → AreApartBelow prefix (x ∷ []) first
      one None first is of_slot =
          let sub = deeper x.byte x.version x.digest first (bytes x (first_there xs x)) of_slot in record {
            bytes = sub.bytes;
            owner = λ i c. (x, first_there [] x, is, rw (← size) (sub.begin i c));
            apart = sub.apart;
          }
      one (Some l) first is of_slot = rw of_slot.0 (nothing prefix (x ∷ []))

  -- the lone keys of slots are below them
  lones_below : (From : List ℕ → ℕ → List ℕ → List ChangedPageAt → Type 0) (prefix : List ℕ) (slots : List SlotAt)
      (pages : List ChangedPageAt) → AreOfSlots (IsLoneBelow H) From prefix slots pages → (x : SlotAt)
      (l : List ℕ × List ℕ) → Contains slots x → x.lone ≡ Some l → IsLoneBelow H prefix x l
  unfolding AreOfSlots
  lones_below From prefix [] pages all x l c is = absurd (none_there x c)
  lones_below From prefix (y ∷ ys) pages all x l c is =
      let P : SlotAt → Type 0 = λ z. AreOfSlot (IsLoneBelow H) From prefix z z.lone all.0 in
      let Q : Option (List ℕ × List ℕ) → Type 0 = λ o. AreOfSlot (IsLoneBelow H) From prefix x o all.0 in
      ⊎_elim (λ same. (subst Q is (subst P same all.3)).1) (λ later. lones_below From prefix ys all.1 all.4 x l
      later is)
      (there_cases ys x y c)

  -- the page at a prefix and those below it
  page_more : (prefix : List ℕ) (version : ℕ) (slots : List SlotAt) (below : List ChangedPageAt) → All IsByte prefix
      → length prefix < 32 → IsApart prefix slots (items (page prefix version slots))
      → AreApartBelow prefix slots below → AreApart prefix (page prefix version slots ∷ below)
  page_more prefix version slots below are_bytes short own sub = record {
    bytes = λ p c. ⊎_elim (λ same. let P : ChangedPageAt → Type 0 = λ q. All IsByte q.prefix × (length q.prefix < 32) in
        subst P same (are_bytes, short)) (sub.bytes p) (there_cases below p (page prefix version slots) c);
    begin = λ i c. ⊎_elim (own.begin i)
        (λ later. let z = sub.owner i later in begin_shorter prefix (path i) z.0.byte z.3)
        (Contains-append_cases (items (page prefix version slots)) (flat_map items below) i c);
    apart = pairs-append Differ (items (page prefix version slots)) (flat_map items below) own.apart sub.apart
        (λ i j c d same. let z = sub.owner j d in
        own.off i z.0 c z.1 z.2 (rw same z.3));
  }

  module _ (each : (prefix : List ℕ) (version : ℕ) (slots : List SlotAt) → IsPage slots
      → ((x : SlotAt) (l : List ℕ × List ℕ) → Contains slots x → x.lone ≡ Some l → IsLoneBelow H prefix x l)
      → IsApart prefix slots (items (page prefix version slots))) where
    from_prefix : (n : ℕ) (prefix : List ℕ) (version : ℕ) (digest : List ℕ) (pages : List ChangedPageAt)
        → length prefix + n ≡ 32 → All IsByte prefix → AreFromWhere H (IsLoneBelow H) IsThere n prefix version digest
        pages → AreApart prefix pages
    unfolding AreFromWhere
    from_prefix zero prefix version digest pages size are_bytes from = absurd from
    from_prefix (suc n) prefix version digest pages size are_bytes from =
        subst (AreApart prefix) (sym from.2) (page_more prefix version from.0 from.1 are_bytes (omega (arith, size))
        (each prefix version from.0 from.3 (lones_below (AreFromWhere H (IsLoneBelow H) IsThere n) prefix from.0
        from.1 from.6))
        (below_slots (AreFromWhere H (IsLoneBelow H) IsThere n) prefix
        (λ byte later lower ps is_byte. from_prefix n (prefix ++ byte ∷ []) later lower ps
        (let k = length-append prefix (byte ∷ []) in omega (arith, size))
        (All-append IsByte prefix (byte ∷ []) are_bytes (All-cons IsByte byte [] is_byte (λ i d lt. absurd
        (omega arith)))))
        from.0 from.1 from.3.ascend
        (λ z c. (All-contains IsSlot from.0 z from.3.are_slots c).is_byte) from.6))

    pub all_apart : (root : List ℕ) (version : ℕ) (all : List ChangedPageAt) → AreAllPages H IsThere root version all
        → AreApart [] all
    all_apart root zero all are = subst (AreApart []) (sym are.0) record {
      bytes = λ p c. absurd (none_there p c);
      begin = λ i c. absurd (none_there i c);
      apart = λ i j d lt within. absurd (omega arith);
    }
    all_apart root (suc last) all are = from_prefix 32 [] (suc last) root all refl (λ i d lt. absurd (omega arith)) are

-- the digest of a slot's lone key
abbrev pub key_of : Option (List ℕ × List ℕ) → List ℕ
key_of None = []
key_of (Some l) = l.0

-- the slots of lone keys
abbrev pub lones_of : List SlotAt → List SlotAt
lones_of slots = filter (λ x. is_some x.lone) slots

module _ (H : List ℕ → List ℕ) (IsThere : List ℕ → ℕ → List SlotAt → Type 0) where
  -- pages by their prefixes
  page_apart : (prefix : List ℕ) (version : ℕ) (slots : List SlotAt)
      → IsApart H IsThere (λ (p : ChangedPageAt). p ∷ []) (λ p. p.prefix) prefix slots (page prefix version slots ∷ [])
  page_apart prefix version slots = record {
    begin = λ p c. rw (← one p c) (take_all (length prefix) prefix (omega arith));
    off = λ p z c d none longer.
        let size = ap length (sym (take_all (length prefix + 1) prefix (omega arith))
        ∙ ap (take (length prefix + 1)) (one p c) ∙ longer) in
        let more = length-append prefix (z.byte ∷ []) in
        omega arith;
    apart = λ i j d lt within. absurd (omega arith);
  }
    where
      one : (p : ChangedPageAt) → Contains (page prefix version slots ∷ []) p → prefix ≡ p.prefix
      one p c = ap (λ (q : ChangedPageAt). q.prefix) (of_one (page prefix version slots) p c)

  pub visited_pages : (root : List ℕ) (version : ℕ) (all : List ChangedPageAt) → AreAllPages H IsThere root version all
      → AreApart H IsThere (λ (p : ChangedPageAt). p ∷ []) (λ p. p.prefix) [] all
  visited_pages = all_apart H IsThere (λ (p : ChangedPageAt). p ∷ []) (λ p. p.prefix)
      (λ prefix version slots is lones. page_apart prefix version slots)

  -- a page in a visit is the only one at its prefix
  pub one_page_visited : (root : List ℕ) (version : ℕ) (all : List ChangedPageAt)
      → AreAllPages H IsThere root version all → (p q : ChangedPageAt) → Contains all p → Contains all q
      → p.prefix ≡ q.prefix → p ≡ q
  one_page_visited root version all are p q c d same = one_alike (λ (r : ChangedPageAt). r.prefix) all p q
      (rw (each_alone all) at
      (visited_pages root version all are).apart) c d same
    where
      each_alone : (ps : List ChangedPageAt) → flat_map (λ p. p ∷ []) ps ≡ ps
      each_alone [] = refl
      each_alone (p ∷ ps) = ap (λ qs. p ∷ qs) (each_alone ps)

  -- lone keys by their digests
  key_apart : (prefix : List ℕ) (slots : List SlotAt) → IsPage slots
      → ((x : SlotAt) (l : List ℕ × List ℕ) → Contains slots x → x.lone ≡ Some l → IsLoneBelow H prefix x l)
      → IsApart H IsThere (λ (p : ChangedPageAt). lones_of p.page) (λ x. key_of x.lone) prefix slots (lones_of slots)
  key_apart prefix slots is lones = record {
    begin = λ x c. begin_shorter prefix (key_of x.lone) x.byte (begins x c);
    off = λ x z c d none longer.
        let byte = one_byte prefix x.byte z.byte (sym (begins x c) ∙ longer) in
        let kept = of_passed (λ x. is_some x.lone) slots x c in
        let same : x ≡ z = one_alike (λ (y : SlotAt). y.byte) slots x z
        (pairs_then (λ a b. a.byte < b.byte) (λ a b. a.byte ≢ b.byte) slots (λ a b e f lt alike. omega arith) is.ascend)
        kept.1 d byte in
        let clash : true ≡ false = sym kept.0 ∙ ap (λ (y : SlotAt). is_some y.lone) same ∙ ap is_some none in
        cc;
    apart = pairs_then (λ a b. a.byte < b.byte) (λ x y. key_of x.lone ≢ key_of y.lone) (lones_of slots)
        (λ x y c d lt same.
        let byte = one_byte prefix x.byte y.byte (sym (begins x c) ∙ ap (take (length prefix + 1)) same ∙ begins y d) in
        omega arith) (AllPairs-filter (λ a b. a.byte < b.byte) (λ x. is_some x.lone) slots is.ascend);
  }
    where
      by_lone : (x : SlotAt) (o : Option (List ℕ × List ℕ)) → x.lone ≡ o → is_some o ≡ true → Contains slots x
          → take (length prefix + 1) (key_of o) ≡ prefix ++ x.byte ∷ []
      by_lone x None e some c = absurd (cc)
      by_lone x (Some l) e some c = (lones x l c e).begins

      begins : (x : SlotAt) → Contains (lones_of slots) x
          → take (length prefix + 1) (key_of x.lone) ≡ prefix ++ x.byte ∷ []
      begins x c = let kept = of_passed (λ x. is_some x.lone) slots x c in by_lone x x.lone refl kept.0 kept.1

  -- no two slots of a visit have the same lone key, nor one of them twice
  pub keys_apart : (root : List ℕ) (version : ℕ) (all : List ChangedPageAt) → AreAllPages H IsThere root version all
      → AllPairs (λ x y. key_of x.lone ≢ key_of y.lone) (lone_slots all)
  keys_apart root version all are =
      (all_apart H IsThere (λ (p : ChangedPageAt). lones_of p.page) (λ x. key_of x.lone)
      (λ prefix version. key_apart prefix) root version all are).apart
