-- A visit of the pages of insertions finds each of them, and no others.
use Rattle.std.proofs.Common.{◌≡◌, ⊎_elim, ℕ, zero, suc, ◌+◌, ◌-◌, ◌<◌, Bool, true, false, List, [], ◌∷◌, ◌++◌, length, Option, Some, None, refl, sym, ap, ◌∙◌, arith, length-append, append_assoc}
use Rattle.std.proofs.lemmas.List.{append-nil}
use Rattle.std.proofs.Math.Seq.{get_or-append_seam}
use Rattle.std.specs.List.{All, Contains}
use Rattle.warg_crypto.specs.Digests.{IsByte}
use Rattle.warg_crypto.specs.Collisions.{GivesHashes}
use Rattle.warg_map.specs.Last.{last_with}
use Rattle.warg_map.specs.Sparse.{root_of_levels, map_of}
use Rattle.warg_pages.specs.Prefixes.{bits_of_bytes, byte_bits, is_below, below, version}
use Rattle.warg_pages.specs.Slots.{SlotAt, slot_of}
use Rattle.warg_pages.specs.Pages.{slot_at}
use Rattle.warg_pages.specs.ChangedPages.{ChangedPageAt, page_at}
use Rattle.warg_pages.specs.OwnPages.{stands, stands_over}
use Rattle.warg_pages.specs.Visits.{AreOfSlot, AreFromWhere, IsAllowed}
use Rattle.warg_pages.specs.Private.Visited.{IsOwnFrom, IsOwnSlot}
use Rattle.warg_pages.proofs.KeyPrefixes.{length-bits_from}
use Rattle.warg_pages.proofs.Members.{among, later_among}
use Rattle.warg_pages.proofs.MoreInsertions.{none_longer}
use Rattle.warg_pages.proofs.PrefixBytes.{bits-append, bits-more}
use Rattle.warg_pages.proofs.SlotsAfter.{no_page_lone, page_not_lone, page_slot_is}
use Rattle.warg_pages.proofs.VisitedPages.{own_page, own_slot, own_below}
use Rattle.warg_pages.proofs.PageRoots.{own_slot_at}
use Rattle.warg_pages.proofs.SlotPages.{of_member, of_page}
use Rattle.warg_pages.proofs.NumberedSlots.{slot_there}

-- the slot of a byte, on the way to a page further on
record IsSlotAbove (H : List ℕ → List ℕ) (es : List (List ℕ × List ℕ)) (prefix : List ℕ) (s : ℕ) : Type 0 where
  slot : SlotAt
  is_slot : slot_of H es (bits_of_bytes prefix) s ≡ Some slot
  is_byte : slot.byte ≡ s
  no_lone : slot.lone ≡ None

slot_above : (H : List ℕ → List ℕ) (es : List (List ℕ × List ℕ)) (prefix : List ℕ) (s : ℕ) (rest : List ℕ)
    → stands H es (bits_of_bytes (prefix ++ s ∷ rest)) ≡ true → IsSlotAbove H es prefix s
slot_above H es prefix s rest there = by_last _ refl
  where
    p : List Bool
    p = bits_of_bytes prefix ++ byte_bits s

    r : List Bool
    r = bits_of_bytes rest

    bits : bits_of_bytes (prefix ++ s ∷ rest) ≡ p ++ r
    bits = ap bits_of_bytes (sym (append_assoc prefix _ rest)) ∙ bits-append _ rest
        ∙ ap (λ q. q ++ r) (bits-more prefix s)

    is_there : stands H es (p ++ r) ≡ true
    is_there = ap (stands H es) (sym bits) ∙ there

    some : 0 < length p
    some = omega (arith, length-append (bits_of_bytes prefix) (byte_bits s), length-bits_from (s ∷ []) 0 8)

    by_last : (last : Option (List ℕ × List ℕ)) → last_with (is_below H p) es ≡ last → IsSlotAbove H es prefix s
    by_last None l =
        let no : stands H es (p ++ r) ≡ false = ap (stands_over H es (p ++ r)) (none_longer H p r es l) in
        absurd (let both : true ≡ false = sym is_there ∙ no in cc)
    by_last (Some e) l =
        let page = page_not_lone H es p e l (λ t. no_page_lone H es p r e some l t is_there) in record {
          slot = record {
            byte = s;
            version = version H es p;
            digest = root_of_levels H (256 - length p) (below (map_of H es) p);
            lone = None;
          };
          is_slot = page_slot_is H es p s _ some page;
          is_byte = refl;
          no_lone = refl;
        }

-- a page is one of those of insertions
abbrev pub IsOwnAt : (List ℕ → List ℕ) → List (List ℕ × List ℕ) → ChangedPageAt → Type 0
IsOwnAt H es p = (stands H es (bits_of_bytes p.prefix) ≡ true) × (p.version ≡ version H es (bits_of_bytes p.prefix))

-- a visit of the pages of insertions
module _ (H : List ℕ → List ℕ) (gives : GivesHashes H) (IsLone : List ℕ → SlotAt → List ℕ × List ℕ → Type 0)
    (f : List ℕ → ℕ → Option (List ℕ)) (T : Type 0) (es : List (List ℕ × List ℕ)) where
  abbrev pub From : ℕ → List ℕ → ℕ → List ℕ → List ChangedPageAt → Type 0
  From n = AreFromWhere H IsLone (IsAllowed f T) n

  -- each page is among those of a visit from a prefix on
  pub own_among : (n : ℕ) (prefix digest : List ℕ) (number : ℕ) (pages : List ChangedPageAt) (rest : List ℕ)
      → From n prefix number digest pages → IsOwnFrom H f prefix number digest es → All IsByte (prefix ++ rest)
      → length (prefix ++ rest) < 32 → stands H es (bits_of_bytes (prefix ++ rest)) ≡ true
      → Contains pages (page_at H es (prefix ++ rest))
  unfolding AreFromWhere
  own_among zero prefix digest number pages rest from own are_bytes short there = absurd from
  own_among (suc n) prefix digest number pages [] from own are_bytes short there =
      let lt : length prefix < 32 = (let k = length-append prefix [] in omega arith) in
      let page = own_page gives own lt from.3 from.4.allowed in
      let first : ChangedPageAt = record { prefix = prefix; version = number; page = from.0 } in
      let same : first ≡ page_at H es prefix =
      λ i. record { prefix = prefix; version = own.is_version i; page = page i } in
      rw (append-nil prefix, from.2) (0, omega arith, same)
  own_among (suc n) prefix digest number pages (s ∷ rest) from own are_bytes short there =
      let lt : length prefix < 32 = (let k = length-append prefix (s ∷ rest) in omega arith) in
      let page = own_page gives own lt from.3 from.4.allowed in
      let byte : s < 256 = rw (get_or-append_seam prefix s rest 0) at
      (are_bytes (length prefix) 0 (let k = length-append prefix (s ∷ rest) in omega arith)) in
      let above = slot_above H es prefix s rest there in
      let x = above.slot in
      let at : slot_at from.0 s ≡ Some x = ap (λ xs. slot_at xs s) page ∙ own_slot_at H es (bits_of_bytes prefix) s byte
      ∙ above.is_slot in
      let c = (slot_there from.0 s x at).0 in
      let found = of_member IsLone (From n) prefix from.0 from.1 from.6 x c in
      let below_slot = rw above.no_lone at found.of_slot in
      let slot_is : IsOwnSlot H f prefix x es = own_slot own page c.0 x c.1 (sym c.2) in
      let longer = prefix ++ x.byte ∷ [] in
      let whole : longer ++ rest ≡ prefix ++ s ∷ rest = append_assoc prefix (x.byte ∷ []) rest
      ∙ ap (λ b. prefix ++ b ∷ rest) above.is_byte in
      let there_below = own_among n longer x.digest x.version found.these rest below_slot
      (own_below slot_is refl above.no_lone) (rw whole are_bytes)
      (let k = ap length whole in omega arith) (ap (λ q. stands H es (bits_of_bytes q)) whole ∙ there) in
      let first : ChangedPageAt = record { prefix = prefix; version = number; page = from.0 } in
      rw from.2 (later_among first from.1 (page_at H es (prefix ++ s ∷ rest))
      (found.within _ (rw whole at there_below)))

  -- each page of a visit from a prefix on is one of the insertions'
  pub own_from : (n : ℕ) (prefix digest : List ℕ) (number : ℕ) (pages : List ChangedPageAt) → length prefix + n ≡ 32
      → From n prefix number digest pages → IsOwnFrom H f prefix number digest es → (p : ChangedPageAt)
      → Contains pages p → IsOwnAt H es p
  unfolding AreFromWhere
  own_from zero prefix digest number pages depth from own p there = absurd from
  own_from (suc n) prefix digest number pages depth from own p there =
      let first : ChangedPageAt = record { prefix = prefix; version = number; page = from.0 } in
      ⊎_elim (λ same. rw (← same) (own.is_there, own.is_version))
      (λ more. let at = of_page IsLone (From n) prefix from.0 from.1 from.6 p more in
      by_lone at.slot at.these at.in_slots (own_from n) at.slot.lone refl at.of_slot p at.there)
      (among first from.1 p (rw from.2 at there))
    where
      by_lone : (x : SlotAt) (these : List ChangedPageAt) → Contains from.0 x
          → ((longer lower : List ℕ) (later : ℕ) (ps : List ChangedPageAt) → length longer + n ≡ 32
          → From n longer later lower ps → IsOwnFrom H f longer later lower es → (q : ChangedPageAt) → Contains ps q
          → IsOwnAt H es q)
          → (lone : Option (List ℕ × List ℕ)) → x.lone ≡ lone → AreOfSlot IsLone (From n) prefix x lone these
          → (q : ChangedPageAt) → Contains these q → IsOwnAt H es q
      by_lone x these in_page rest (Some lone) is of_slot q in_these =
          let none : Contains [] q = rw of_slot.0 at in_these in absurd (omega arith)
      by_lone x these in_page rest None is of_slot q in_these =
          let lt : length prefix < 32 = omega (arith, depth) in
          let at = own_slot own (own_page gives own lt from.3 from.4.allowed) in_page.0 x in_page.1 (sym in_page.2) in
          let longer = prefix ++ x.byte ∷ [] in
          rest longer x.digest x.version these
          (let k = length-append prefix (x.byte ∷ []) in omega (arith, depth)) of_slot
          (own_below at refl is) q in_these
