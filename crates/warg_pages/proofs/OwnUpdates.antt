-- What becomes of a slot, and of a page, where the pages are those of insertions.
use Rattle.std.proofs.Common.{◌≡◌, ℕ, zero, suc, ◌+◌, ◌-◌, ◌*◌, ◌<◌, Bool, true, List, [], ◌∷◌, ◌++◌, length, Option, Some, None, refl, sym, ap, ◌∙◌, arith, length-append}
use Rattle.std.proofs.lemmas.List.Elements.{All-nil, All-cons, All-append, filter_map-append}
use Rattle.std.specs.Prelude.{IfSome}
use Rattle.std.specs.Option.{option_map}
use Rattle.std.specs.List.{All, filter, filter_map, cons_option}
use Rattle.warg_crypto.specs.Digests.{IsDigest, IsByte}
use Rattle.warg_crypto.specs.Collisions.{GivesHashes}
use Rattle.warg_crypto.specs.Tree.{leaf_digest}
use Rattle.warg_map.specs.Bits.{last_bits}
use Rattle.warg_map.specs.Last.{last_with}
use Rattle.warg_map.specs.Sparse.{root_of_levels, map_of}
use Rattle.warg_pages.specs.Prefixes.{byte_bits, begins, is_below, below, bits_of_bytes, last_place}
use Rattle.warg_pages.specs.Slots.{SlotAt, is_lone, slot_over, slot_of, numbers, page_of}
use Rattle.warg_pages.specs.Pages.{slot_height, slot_at, page_digest}
use Rattle.warg_pages.specs.OwnPages.{stands}
use Rattle.warg_pages.specs.ChangedPages.{ChangedPageAt, page_at, ChangesAt}
use Rattle.warg_pages.specs.Private.Descents.{lone_root}
use Rattle.warg_pages.specs.Private.Updates.{ChangeAt, changes_from, changes_below, goes_to, IsOwnChange, IsOwnUpdate, IsUpdated, IsUpdatedSlot, IsOwnBelow, IsReadBelow, GoesOn, GoesBelow, AreChangedAmong, lone_slot, slot_digest, StaysAlone, HasLoneDigest}
use Rattle.warg_pages.proofs.PageRoots.{page_root, slot_digest as same_slot_digest, own_slot_at}
use Rattle.warg_pages.proofs.OwnPages.{version_within}
use Rattle.warg_pages.proofs.LoneSlots.{some_same, lone_of}
use Rattle.warg_pages.proofs.OwnWays.{all_one}
use Rattle.warg_pages.proofs.LastPassing.{last_found, place_some, last_with-later, last_place-later}
use Rattle.warg_pages.proofs.MoreInsertions.{quiet_slot, quiet_version, none_longer}
use Rattle.warg_pages.proofs.ChangesBelow.{last_of, put_by, last_change, filtered_again}
use Rattle.warg_pages.proofs.PrefixBytes.{length-bits, bits-append, bits-more, begins-more}
use Rattle.warg_pages.proofs.ChangedAmong.{none_among, whole_among}
use Rattle.warg_pages.proofs.SlotsAfter.{stays_lone, lone_stays, lone_over_is, lone_slot_is, no_page_lone, page_not_lone, page_slot_is}
use Rattle.warg_pages.proofs.NumberedSlots.{slot_there, digest_of-slot}

-- the changes of a byte
key_digests : (H : List ℕ → List ℕ) → GivesHashes H → (n : ℕ) (es : List (List ℕ × List ℕ))
    → All (λ c. IsDigest c.key) (changes_from H n es)
key_digests H gives n [] = All-nil (λ (c : ChangeAt). IsDigest c.key)
key_digests H gives n (x ∷ es) = All-cons (λ (c : ChangeAt). IsDigest c.key) _ (changes_from H (n + 1) es) (gives _)
    (key_digests H gives (n + 1) es)

pub changes_next : (H : List ℕ → List ℕ) → GivesHashes H → (prefix : List ℕ) (changes : List ChangeAt) (byte n : ℕ)
    (more : List (List ℕ × List ℕ)) → length prefix < 32 → byte < 256
    → changes ≡ changes_below H n more (bits_of_bytes prefix) → filter (goes_to (length prefix) byte) changes
    ≡ changes_below H n more (bits_of_bytes (prefix ++ byte ∷ []))
changes_next H gives prefix changes byte n more short lt are =
    rw are (sym (filtered_again (λ (c : ChangeAt). begins (bits_of_bytes prefix) (last_bits c.key 256))
    (goes_to (length prefix) byte) (λ (c : ChangeAt). begins (bits_of_bytes prefix ++ byte_bits byte)
    (last_bits c.key 256)) (changes_from H n more)
    (λ i d within. begins-more _ (bits_of_bytes prefix) (length prefix) byte (key_digests H gives n more i d within)
    (length-bits prefix) short lt))
    ∙ ap (changes_below H n more) (sym (bits-more prefix byte)))

-- the bits of a prefix with a byte more
abbrev bits_with : List ℕ → ℕ → List Bool
bits_with prefix byte = bits_of_bytes (prefix ++ byte ∷ [])

sizes : (prefix : List ℕ) (byte : ℕ) → length (bits_with prefix byte) ≡ 8 * length prefix + 8
sizes prefix byte = length-bits _ ∙ (let n = length-append prefix (byte ∷ []) in omega arith)

slot_of-with : (H : List ℕ → List ℕ) (es : List (List ℕ × List ℕ)) (prefix : List ℕ) (byte : ℕ)
    → slot_over H es (bits_with prefix byte) byte (last_with (is_below H (bits_with prefix byte)) es)
    ≡ slot_of H es (bits_of_bytes prefix) byte
slot_of-with H es prefix byte = ap (λ p. slot_over H es p byte (last_with (is_below H p) es)) (bits-more prefix byte)

-- the last of them is that of the last insertion below
pub record LastThere (H : List ℕ → List ℕ) (n : ℕ) (q : List Bool) (more : List (List ℕ × List ℕ))
    (c : ChangeAt) : Type 0 where
  pub last : List ℕ × List ℕ
  pub is_last : last_with (is_below H q) more ≡ Some last
  pub is_change : c ≡ put_by H (n + last_place (is_below H q) more) last

last_there : (H : List ℕ → List ℕ) (n : ℕ) (q : List Bool) (more : List (List ℕ × List ℕ)) (c : ChangeAt)
    → last_of (changes_below H n more q) ≡ Some c → LastThere H n q more c
last_there H n q more c e = by_last _ refl (sym (last_change H q n more) ∙ e)
  where
    by_last : (o : Option (List ℕ × List ℕ)) → last_with (is_below H q) more ≡ o
        → option_map (put_by H (n + last_place (is_below H q) more)) (last_with (is_below H q) more) ≡ Some c
        → LastThere H n q more c
    by_last None l h = absurd cc
    by_last (Some f) l h = record { last = f; is_last = l; is_change = some_same (sym (rw l at h)) }

none_there : (H : List ℕ → List ℕ) (n : ℕ) (q : List Bool) (more : List (List ℕ × List ℕ))
    → last_of (changes_below H n more q) ≡ None → last_with (is_below H q) more ≡ None
none_there H n q more e = by_last _ (sym (last_change H q n more) ∙ e)
  where
    by_last : (o : Option (List ℕ × List ℕ)) → option_map (put_by H (n + last_place (is_below H q) more)) o ≡ None
        → o ≡ None
    by_last None h = refl
    by_last (Some f) h = absurd cc

named_digest : (H : List ℕ → List ℕ) (old : List (List ℕ × List ℕ)) (prefix : List ℕ) (byte : ℕ) (slot : Option SlotAt)
    → slot ≡ slot_over H old (bits_with prefix byte) byte
    (last_with (is_below H (bits_with prefix byte)) old)
    → slot_digest H (length prefix) slot ≡ root_of_levels H (256 - 8 * length (prefix ++ byte ∷ []))
    (below (map_of H old) (bits_with prefix byte))
named_digest H old prefix byte slot is =
    let q : List Bool = bits_with prefix byte in
    let size = sizes prefix byte in
    let height : 256 - length q ≡ slot_height (length prefix) = omega arith in
    let all : slot_height (length prefix) ≡ 256 - 8 * length (prefix ++ byte ∷ []) = let n = length-append prefix
    (byte ∷ []) in omega arith in
    rw is (digest_of-slot H (length prefix) (slot_over H old q byte (last_with (is_below H q) old))
    ∙ same_slot_digest H (slot_height (length prefix)) old q byte (last_with (is_below H q) old) refl height
    ∙ ap (λ n. root_of_levels H n (below (map_of H old) q)) all)

-- an own slot's lone key has the slot's digest
has_digest : (H : List ℕ → List ℕ) (es : List (List ℕ × List ℕ)) (q : List Bool) (depth s : ℕ)
    (last : Option (List ℕ × List ℕ)) → length q ≡ 8 * depth + 8 → depth < 32 → last_with (is_below H q) es ≡ last
    → HasLoneDigest H depth (slot_over H es q s last)
has_digest H es q depth s None size lt l = tt
has_digest H es q depth s (Some e) size lt l = λ lone is.
    let found = lone_of (is_lone H es q e) (H e.0, leaf_digest H e.1) lone is in
    let height : 256 - length q ≡ slot_height depth = omega arith in
    rw (← found.1) (sym (lone_over_is H es q s e l found.0 (omega arith)
    ∙ ap (lone_root H (H e.0) (leaf_digest H e.1)) height))

-- a byte of an own page, and the changes that go to it
module _ {H : List ℕ → List ℕ} (gives : GivesHashes H) {bytes_at : List ℕ → ℕ → Option (List ℕ)} {prefix : List ℕ}
    {slots : List SlotAt} {changes : List ChangeAt} {old more : List (List ℕ × List ℕ)}
    (own : IsOwnChange H bytes_at prefix slots changes old more) (byte : ℕ) (short : length prefix < 32)
    (lt : byte < 256) where
  abbrev here : List ChangeAt
  here = filter (goes_to (length prefix) byte) changes

  are_here : here ≡ changes_below H (length old) more (bits_with prefix byte)
  are_here = changes_next H gives prefix changes byte (length old) more short lt own.are_changes

  -- the slot before
  slot_before : slot_at slots byte ≡ slot_of H old (bits_of_bytes prefix) byte
  slot_before = rw own.are_slots (own_slot_at H old (bits_of_bytes prefix) byte lt)

  slot_is : slot_at slots byte
      ≡ slot_over H old (bits_with prefix byte) byte (last_with (is_below H (bits_with prefix byte)) old)
  slot_is = slot_before ∙ sym (slot_of-with H old prefix byte)

  pub own_below : IsOwnBelow H bytes_at (prefix ++ byte ∷ []) (slot_at slots byte) old
  own_below = let fits = own.fits in record {
    pages = own.pages;
    fits = omega arith;
    are_bytes = All-append IsByte prefix (byte ∷ []) own.are_bytes (All-cons IsByte byte [] lt (All-nil IsByte));
    byte = byte;
    is_slot = slot_is;
  }

  -- with no change the slot stays
  pub slot_stays : last_of here ≡ None → IsUpdatedSlot H old more prefix byte (slot_at slots byte) []
  slot_stays last = record {
    is_slot = slot_before ∙ sym (quiet_slot H old more (bits_of_bytes prefix) byte
        (ap (λ q. last_with (is_below H q) more) (sym (bits-more prefix byte)) ∙ none));
    changed = none_among H old more (GoesOn (prefix ++ byte ∷ [])) nowhere;
  }
    where
      none : last_with (is_below H (bits_with prefix byte)) more ≡ None
      none = none_there H (length old) (bits_with prefix byte) more (ap last_of (sym are_here) ∙ last)

      nowhere : (below : List ℕ) → GoesOn (prefix ++ byte ∷ []) below → ChangesAt H old more below → ⊥
      nowhere below kind changes =
          let bits : bits_of_bytes below ≡ bits_with prefix byte ++ bits_of_bytes kind.0 =
          ap bits_of_bytes kind.1 ∙ bits-append (prefix ++ byte ∷ []) kind.0 in
          let no_one = ap (λ q. last_with (is_below H q) more) bits ∙ none_longer H (bits_with prefix byte)
          (bits_of_bytes kind.0) more none in
          let same = quiet_version H old more (bits_of_bytes below) no_one in
          let le = version_within (is_below H (bits_of_bytes below)) old in
          let later = changes.later in omega arith

  last_here : (c : ChangeAt) → last_of here ≡ Some c → LastThere H (length old) (bits_with prefix byte) more c
  last_here c last = last_there H (length old) (bits_with prefix byte) more c (rw (← are_here) last)

  -- where a key stays alone, its slot is that of the last change
  pub slot_alone : (c : ChangeAt) → last_of here ≡ Some c → StaysAlone c.key (slot_at slots byte) here
      → IsUpdatedSlot H old more prefix byte (Some (lone_slot H (length prefix) byte c.version (c.key, c.leaf))) []
  slot_alone c last stays =
      let q : List Bool = bits_with prefix byte in
      let size = sizes prefix byte in
      let there = last_here c last in
      let e = there.last in
      let lone : is_lone H (old ++ more) q e ≡ true = stays_lone H old more q byte (length old) e
      (rw (there.is_change, slot_is, are_here) at stays) in
      let of_all = last_with-later (is_below H q) old more e there.is_last in
      rw there.is_change record {
        is_slot = ap (λ v. Some (lone_slot H (length prefix) byte v (H e.0, leaf_digest H e.1)))
            (sym (last_place-later (is_below H q) old more e there.is_last))
            ∙ sym (lone_slot_is H (old ++ more) q (length prefix) byte e size short of_all lone)
            ∙ slot_of-with H (old ++ more) prefix byte;
        changed = none_among H old more (GoesOn (prefix ++ byte ∷ [])) (λ below kind changes.
            let bits : bits_of_bytes below ≡ q ++ bits_of_bytes kind.0 = ap bits_of_bytes kind.1
            ∙ bits-append (prefix ++ byte ∷ []) kind.0 in
            no_page_lone H (old ++ more) q (bits_of_bytes kind.0) e (omega arith) of_all lone
            (ap (stands H (old ++ more)) (sym bits) ∙ changes.is_there));
      }

  -- and else the page below it changes
  not_alone : {c : ChangeAt} (there : LastThere H (length old) (bits_with prefix byte) more c)
      → ¬ StaysAlone c.key (slot_at slots byte) here
      → ¬ (is_lone H (old ++ more) (bits_with prefix byte) there.last ≡ true)
  not_alone there other lone = other (rw (there.is_change, slot_is, are_here)
      (lone_stays H gives old more (bits_with prefix byte) byte (length old) there.last lone))

  pub page_changes : (c : ChangeAt) (page : List SlotAt) → length prefix < 31 → last_of here ≡ Some c
      → ¬ StaysAlone c.key (slot_at slots byte) here
      → IsReadBelow H bytes_at (prefix ++ byte ∷ []) (slot_at slots byte) page
      → IsOwnUpdate H bytes_at (prefix ++ byte ∷ []) c.version (slot_digest H (length prefix) (slot_at slots byte)) page
      here old more
  page_changes c page low last other read =
      let q : List Bool = bits_with prefix byte in
      let there = last_here c last in
      let number : c.version ≡ length old + last_place (is_below H q) more =
      ap (λ (c : ChangeAt). c.version) there.is_change in
      let of_all = last_with-later (is_below H q) old more there.last there.is_last in
      let place = last_place-later (is_below H q) old more there.last there.is_last in
      let some = place_some (is_below H q) more there.last there.is_last in
      let n = length-append prefix (byte ∷ []) in
      record {
        own = record {
          pages = own.pages;
          fits = own.fits;
          are_bytes = own_below.are_bytes;
          are_slots = read old own_below;
          are_changes = are_here;
        };
        changed = record {
          are_bytes = own_below.are_bytes;
          short = omega arith;
          is_there = page_not_lone H (old ++ more) q there.last of_all (not_alone there other);
          later = omega arith;
        };
        is_version = number ∙ sym place;
        is_digest = named_digest H old prefix byte (slot_at slots byte) slot_is;
      }

  -- two key digests don't share all their bytes
  pub none_at_last : (c : ChangeAt) → length prefix ≡ 31 → last_of here ≡ Some c
      → ¬ StaysAlone c.key (slot_at slots byte) here → ⊥
  none_at_last c full last other =
      let q : List Bool = bits_with prefix byte in
      let there = last_here c last in
      let size = sizes prefix byte in
      not_alone there other (all_one H q there.last (old ++ more) (omega arith)
      ((last_found (is_below H q) more there.last there.is_last).1))

  pub slot_has_digest : HasLoneDigest H (length prefix) (slot_at slots byte)
  slot_has_digest = rw slot_is (has_digest H old (bits_with prefix byte) (length prefix) byte
      (last_with (is_below H (bits_with prefix byte)) old) (sizes prefix byte) short refl)

-- the digest of the page before
pub digest_before : {H : List ℕ → List ℕ} {bytes_at : List ℕ → ℕ → Option (List ℕ)} {prefix : List ℕ} {number : ℕ}
    {named : List ℕ} {slots : List SlotAt} {changes : List ChangeAt} {old more : List (List ℕ × List ℕ)}
    → IsOwnUpdate H bytes_at prefix number named slots changes old more → length prefix < 32
    → page_digest H (length prefix) slots ≡ named
digest_before {H} {prefix = prefix} {old = old} own short =
    rw own.own.are_slots (page_root H old _ _ short (length-bits prefix)
    ∙ sym own.is_digest)

-- the slot of a page that changed
pub slot_of_page : {H : List ℕ → List ℕ} {bytes_at : List ℕ → ℕ → Option (List ℕ)} {number : ℕ}
    {named digest : List ℕ} {slots : List SlotAt} {changes : List ChangeAt} {pages : List ChangedPageAt}
    {old more : List (List ℕ × List ℕ)} (prefix : List ℕ) (byte : ℕ)
    → IsOwnUpdate H bytes_at (prefix ++ byte ∷ []) number named slots changes old more
    → IsUpdated H old more (prefix ++ byte ∷ []) digest pages
    → IsUpdatedSlot H old more prefix byte (Some record { byte = byte; version = number; digest = digest; lone = None })
    pages
slot_of_page {H} {number = number} {digest = digest} {old = old} {more = more} prefix byte own updated =
    let q : List Bool = bits_with prefix byte in
    let size = sizes prefix byte in
    let all = length-bits (prefix ++ byte ∷ []) in
    let root : digest ≡ root_of_levels H (256 - length q) (below (map_of H (old ++ more)) q) = updated.is_root
    ∙ ap (λ n. root_of_levels H (256 - n) (below (map_of H (old ++ more)) q)) (sym all) in
    record {
      is_slot = (λ i. Some record { byte = byte; version = own.is_version i; digest = root i; lone = None })
          ∙ sym (page_slot_is H _ q byte _ (omega arith) own.changed.is_there) ∙ slot_of-with H _ prefix byte;
      changed = updated.changed;
    }

-- the slots so far
pub numbers-more : (first n : ℕ) → numbers first (n + 1) ≡ numbers first n ++ (first + n) ∷ []
unfolding numbers
numbers-more first zero = let at : first + 0 ≡ first = omega arith in rw at refl
numbers-more first (suc n) =
    let all : suc n + 1 ≡ suc (n + 1) = omega arith in
    let at : first + suc n ≡ first + 1 + n = omega arith in
    rw (all, at, numbers-more (first + 1) n) refl

pub slots-more : (f : ℕ → Option SlotAt) (n : ℕ) → filter_map f (numbers 0 (n + 1))
    ≡ filter_map f (numbers 0 n) ++ cons_option (f n) []
slots-more f n = let at : 0 + n ≡ n = omega arith in rw (numbers-more 0 n)
    (filter_map-append f _ _ ∙ ap (λ m. filter_map f (numbers 0 n) ++ cons_option (f m) []) at)

pub slots_below : (xs : List SlotAt) (o : Option SlotAt) (n : ℕ) → All (λ x. x.byte < n) xs → IfSome o (λ x. x.byte ≡ n)
    → All (λ x. x.byte < n + 1) (xs ++ cons_option o [])
slots_below xs None n all is = All-append (λ (x : SlotAt). x.byte < n + 1) xs [] (λ i d lt. let h = all i d lt in
    omega arith) (All-nil (λ (x : SlotAt). x.byte < n + 1))
slots_below xs (Some x) n all is = All-append (λ (x : SlotAt). x.byte < n + 1) xs (x ∷ [])
    (λ i d lt. omega arith) (All-cons (λ (x : SlotAt). x.byte < n + 1) x [] (omega arith)
    (All-nil (λ (x : SlotAt). x.byte < n + 1)))

-- all of them
pub page_updated : {H : List ℕ → List ℕ} {bytes_at : List ℕ → ℕ → Option (List ℕ)} {prefix : List ℕ} {number : ℕ}
    {named : List ℕ} {slots : List SlotAt} {changes : List ChangeAt} {fresh : List SlotAt}
    {old more : List (List ℕ × List ℕ)} (pages : List ChangedPageAt)
    → IsOwnUpdate H bytes_at prefix number named slots changes old more → length prefix < 32
    → fresh ≡ filter_map (slot_of H (old ++ more) (bits_of_bytes prefix)) (numbers 0 256)
    → AreChangedAmong H old more (GoesBelow prefix 256) pages
    → IsUpdated H old more prefix (page_digest H (length prefix) fresh)
    (pages ++ record { prefix = prefix; version = number; page = fresh } ∷ [])
unfolding page_of
page_updated {H} {prefix = prefix} {number = number} {fresh = fresh} {old = old} {more = more} pages own short are
    among =
    let page : fresh ≡ page_of H (old ++ more) (bits_of_bytes prefix) = are in
    let named : record { prefix = prefix; version = number; page = fresh } ≡ page_at H (old ++ more) prefix =
    λ i. record { prefix = prefix; version = own.is_version i; page = page i } in
    record {
      is_root = rw page (page_root H _ _ _ short (length-bits prefix));
      changed = rw named (whole_among H old more prefix pages among own.changed);
    }

-- the slot of a byte has it
pub slot_at-byte : (xs : List SlotAt) (s : ℕ) → IfSome (slot_at xs s) (λ x. x.byte ≡ s)
slot_at-byte xs s = by_slot _ refl
  where
    by_slot : (o : Option SlotAt) → slot_at xs s ≡ o → IfSome o (λ x. x.byte ≡ s)
    by_slot None e = tt
    by_slot (Some x) e = (slot_there xs s x e).1
