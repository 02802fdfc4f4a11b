-- The way down from a prefix, over any pages and over those of insertions.
use Rattle.std.proofs.Common.{◌≡◌, ℕ, zero, suc, ◌+◌, ◌-◌, ◌*◌, ◌<◌, ◌≤◌, Bool, true, false, not, ◌||◌, cond, eqb, List, [], ◌++◌, length, take, get_or, Option, Some, None, refl, sym, ap, ◌∙◌, ◌≢◌, arith, append_assoc, length-append}
use Rattle.std.proofs.lemmas.Bool.{false_from_ne_true}
use Rattle.std.proofs.lemmas.List.{append-nil, append_cancel_left, length-take}
use Rattle.std.proofs.lemmas.List.Elements.{All-take}
use Rattle.std.specs.Prelude.{IfSome}
use Rattle.std.specs.FinMap.{get}
use Rattle.warg_crypto.specs.Digests.{IsDigest, IsByte}
use Rattle.warg_crypto.specs.Collisions.{GivesHashes}
use Rattle.warg_crypto.specs.EmptyTrees.{empty_root}
use Rattle.warg_crypto.specs.Tree.{leaf_digest}
use Rattle.warg_map.specs.Bits.{bits_from, last_bits, key_bits}
use Rattle.warg_map.specs.Last.{last_with, same_bits}
use Rattle.warg_map.specs.Sparse.{root_of_levels, map_of}
use Rattle.warg_map.specs.Peers.{IsPeers}
use Rattle.warg_map.proofs.ForCallers.{same_bits-true, same_bits-itself, all_bits, length-last_bits}
use Rattle.warg_pages.specs.Prefixes.{byte_bits, begins, is_below, below, bits_of_bytes, version}
use Rattle.warg_pages.specs.Slots.{SlotAt, IsPage, is_lone, slot_over, slot_of, page_of}
use Rattle.warg_pages.specs.Pages.{digest_at, slot_height, slot_at}
use Rattle.warg_pages.specs.PageBytes.{page_bytes}
use Rattle.warg_pages.specs.OwnPages.{stands, stands_over}
use Rattle.warg_pages.specs.Private.Descents.{value_above, peers_below, page_peers, page_value, StandsAlone, EndsAt, IsNoLoneKey, IsOwnAt, IsOwnWay, IsWayDown}
use Rattle.warg_pages.proofs.KeyPrefixes.{length-bits_from, bits_from-append, byte_at_depth}
use Rattle.warg_pages.proofs.BitParts.{key_at}
use Rattle.warg_pages.proofs.PageFormat.{one_page}
use Rattle.warg_pages.proofs.OwnPages.{own_slots}
use Rattle.warg_pages.proofs.PageRoots.{page_byte, begins-append, own_slot_at}
use Rattle.warg_pages.proofs.HeldHalves.{no_slot, begins-rest}
use Rattle.warg_pages.proofs.LoneSlots.{lone_over, lone_of, same_tests}
use Rattle.warg_pages.proofs.Members.{all_pass, passes}
use Rattle.warg_pages.proofs.LastPassing.{last_found, place_some, place_same}
use Rattle.warg_pages.proofs.OneMore.{begins-same}
use Rattle.warg_pages.proofs.OwnDescent.{own_slot_is, own_peers_below, bits_of_taken, prefix_more, own_slot_over}
use Rattle.warg_pages.proofs.ValuesAbove.{PeersAbove, value_above-append, value_above-empty, root_above, IsPeers-append}
use Rattle.warg_pages.proofs.LoneEnds.{nothing_end}
use Rattle.warg_pages.proofs.NumberedSlots.{digest_of, digest_at-slot}
use Rattle.std.proofs.lemmas.Option.{IfSome_then}

-- the bits of a key digest above a depth, and with those of its byte there
abbrev bits_above : List ℕ → ℕ → List Bool
bits_above k depth = bits_from k 0 (8 * depth)

abbrev bits_through : List ℕ → ℕ → List Bool
bits_through k depth = bits_above k depth ++ byte_bits (get_or k depth 0)

-- the eight bits of a page, and those below it
pub rest_at : (k : List ℕ) (depth : ℕ) → depth < 32 → last_bits k (256 - 8 * depth)
    ≡ bits_from k (8 * depth) 8 ++ last_bits k (slot_height depth)
rest_at k depth lt =
    let from : 256 - (256 - 8 * depth) ≡ 8 * depth = omega arith in
    let all : 256 - 8 * depth ≡ 8 + slot_height depth = omega arith in
    let next : 8 * depth + 8 ≡ 256 - slot_height depth = omega arith in
    rw (from, all, bits_from-append k (8 * depth) 8 (slot_height depth), next) refl

pub eight_peers : (H : List ℕ → List ℕ) (depth : ℕ) (slots : List SlotAt) (s n : ℕ)
    → length (peers_below H depth slots s n) ≡ n
unfolding peers_below
eight_peers H depth slots s zero = refl
eight_peers H depth slots s (suc n) = ap suc (eight_peers H depth slots s n)

pub nothing_value : (H : List ℕ → List ℕ) (k : List ℕ) (height : ℕ)
    → value_above H 0 [] (empty_root H 0) (last_bits k height) ≡ empty_root H height
nothing_value H k height =
    rw (value_above-empty H 0 (last_bits k height), length-last_bits k height) (ap (empty_root H) (omega arith))

-- over any page with a digest
module _ (H : List ℕ → List ℕ) (k digest : List ℕ) (depth : ℕ) (page : List SlotAt) (lt : depth < 32)
    (leads : page_value H depth page k ≡ digest) where
  below_page : (y : List ℕ) (more : List (Option (List ℕ)))
      → value_above H 0 more y (last_bits k (slot_height depth))
      ≡ digest_at H (slot_height depth) page (get_or k depth 0)
      → value_above H 0 (page_peers H depth page k ++ more) y (last_bits k (256 - 8 * depth)) ≡ digest
  below_page y more foot =
      let height : length (last_bits k (slot_height depth)) + 0 ≡ slot_height depth =
      rw (length-last_bits k (slot_height depth)) (omega arith) in
      let sizes : length (page_peers H depth page k) ≡ length (bits_from k (8 * depth) 8) = eight_peers H depth page
      _ 8 ∙ sym (length-bits_from k _ 8) in
      rw (rest_at k depth lt) (value_above-append H 0 (page_peers H depth page k) more y _ _ sizes
      ∙ (λ i. value_above H (height i) (page_peers H depth page k) (foot i) (bits_from k (8 * depth) 8)) ∙ leads)

  few_below : (more : List (Option (List ℕ))) → length more ≤ slot_height depth
      → length (page_peers H depth page k ++ more) ≤ 256 - 8 * depth
  few_below more few = omega (
    arith,
    eight_peers H depth page (get_or k depth 0) 8,
    length-append (page_peers H depth page k) more,
  )

  -- the digest of a slot, or of none
  foot_of : {o : Option SlotAt} → slot_at page (get_or k depth 0) ≡ o
      → digest_at H (slot_height depth) page (get_or k depth 0) ≡ digest_of H (slot_height depth) o
  foot_of there = digest_at-slot H _ page _ ∙ ap (digest_of H _) there

  -- a slot that isn't there
  pub missing_way : slot_at page (get_or k depth 0) ≡ None → IsWayDown H k depth digest (page_peers H depth page k) None
  missing_way none = rw (← append-nil (page_peers H depth page k)) record {
    few = few_below [] (omega arith);
    leads = below_page _ [] (nothing_value H k _ ∙ sym (foot_of none));
  }

  -- the way ends at a lone key
  pub lone_way : {slot : SlotAt} {lone : List ℕ × List ℕ} {more : List (Option (List ℕ))} {held : Option (ℕ × List ℕ)}
      → slot_at page (get_or k depth 0) ≡ Some slot → EndsAt H k depth slot lone more held
      → IsWayDown H k depth digest (page_peers H depth page k ++ more) held
  lone_way there ends = record {
    few = few_below _ ends.few;
    leads = below_page _ _ (ends.leads ∙ sym (foot_of there));
  }

  -- the way goes on below a slot
  pub next_way : {slot : SlotAt} {more : List (Option (List ℕ))} {held : Option (ℕ × List ℕ)}
      → slot_at page (get_or k depth 0) ≡ Some slot → IsWayDown H k (depth + 1) slot.digest more held
      → IsWayDown H k depth digest (page_peers H depth page k ++ more) held
  next_way {slot} {more} {held} there way =
      let next : slot_height depth ≡ 256 - 8 * (depth + 1) = omega arith in
      record {
        few = few_below more (omega arith);
        leads = below_page _ more (rw (← next) at way.leads ∙ sym (foot_of there));
      }

-- over an own page
module _ (H : List ℕ → List ℕ) (es : List (List ℕ × List ℕ)) where
  own_above : (p : List Bool) (depth s : ℕ) → depth < 32 → length p ≡ 8 * depth → s < 256
      → PeersAbove H (slot_height depth) (below (map_of H es) p) (byte_bits s)
      (peers_below H depth (page_of H es p) s 8)
  own_above p depth s lt n byte = rw (length-bits_from _ 0 8) at (own_peers_below H es p [] _ depth s lt n byte refl)

  shifted : (p b : List Bool) → ◌≡◌ {A = List Bool → Option (List ℕ)} (below (map_of H es) (p ++ b))
      (λ q. below (map_of H es) p (b ++ q))
  shifted p b = λ i q. get (map_of H es) (append_assoc p b q i)

  own_value : (k : List ℕ) (depth : ℕ) → depth < 32 → IsDigest k
      → page_value H depth (page_of H es (bits_from k 0 (8 * depth))) k
      ≡ root_of_levels H (256 - 8 * depth) (below (map_of H es) (bits_from k 0 (8 * depth)))
  own_value k depth lt is =
      let size = is.has_32 in
      let s : ℕ = get_or k depth 0 in
      let p : List Bool = bits_above k depth in
      let byte : s < 256 = is.are_bytes depth 0 (omega arith) in
      let n : length p ≡ 8 * depth = length-bits_from k 0 _ in
      let height : length (byte_bits s) + slot_height depth
      ≡ 256 - 8 * depth = rw (length-bits_from _ 0 8) (omega arith)
      in
      rw (byte_at_depth k depth, page_byte H es p depth s lt n byte, ← height)
      (sym (root_above H _ (below _ p) _ (page_peers H depth _ k) (own_above p depth s lt n byte)))

  -- the peers of an own page, and those below it
  own_append : (k : List ℕ) (depth : ℕ) (more : List (Option (List ℕ))) → depth < 32 → IsDigest k
      → IsPeers H (λ h. None) (below (map_of H es) (bits_through k depth)) (last_bits k (slot_height depth)) more
      → IsPeers H (λ h. None) (below (map_of H es) (bits_above k depth)) (last_bits k (256 - 8 * depth))
      (page_peers H depth (page_of H es (bits_above k depth)) k ++ more)
  own_append k depth more lt is rest =
      let s : ℕ = get_or k depth 0 in
      let p : List Bool = bits_above k depth in
      let byte : s < 256 = is.are_bytes depth 0 (omega arith) in
      let above = own_above p depth s lt (length-bits_from k 0 _) byte in
      rw (rest_at k depth lt, byte_at_depth k depth)
      (IsPeers-append H (below _ p) (byte_bits s) (last_bits k (slot_height depth)) (page_peers H depth _ k) more
      (rw (length-last_bits k _) above) (rw (shifted p (byte_bits s)) at rest))

  -- what stands at the whole digest
  own_whole : (k : List ℕ) (depth : ℕ) → depth < 32 → get (map_of H es) (last_bits k 256)
      ≡ below (map_of H es) (bits_through k depth) (last_bits k (slot_height depth))
  own_whole k depth lt = ap (get (map_of H es)) (key_at k (8 * depth) (omega arith)
      ∙ ap (λ t. bits_above k depth ++ t)
      (rest_at k depth lt ∙ ap (λ b. b ++ last_bits k (slot_height depth)) (byte_at_depth k depth))
      ∙ sym (append_assoc (bits_above k depth) (byte_bits (get_or k depth 0)) (last_bits k (slot_height depth))))

-- the height below a byte
height_through : (k : List ℕ) (depth : ℕ) → 256 - length (bits_through k depth) ≡ slot_height depth
height_through k depth = rw (
  length-append _ _,
  length-bits_from k 0 _,
  length-bits_from _ 0 8,
) (omega arith)

-- the version of a lone key's slot is that of its whole digest
pub version_lone : (H : List ℕ → List ℕ) (p : List Bool) (e : List ℕ × List ℕ) (es : List (List ℕ × List ℕ))
    → is_below H p e ≡ true → is_lone H es p e ≡ true → version H es p ≡ version H es (key_bits H e.0)
version_lone H p e es t h = place_same _ _ es
    (λ x c. same_tests (is_below H p x) (begins (key_bits H e.0) (key_bits H x.0))
    (λ under. rw (← same_bits-true (key_bits H e.0) (key_bits H x.0) (rw under at (passes _ es h c)))
    (rw (append-nil (key_bits H e.0)) at (begins-append (key_bits H e.0) [])))
    (λ whole. rw (← begins-same (key_bits H e.0) (key_bits H x.0) [] (all_bits H e.0 ∙ sym (all_bits H x.0))
    (rw (append-nil (key_bits H x.0)) whole)) t))

-- an own slot with a lone key
pub record OwnLone (H : List ℕ → List ℕ) (es : List (List ℕ × List ℕ)) (p : List Bool) (x : SlotAt)
    (lone : List ℕ × List ℕ) : Type 0 where
  pub alone : StandsAlone H p lone (256 - length p) x.digest (below (map_of H es) p)
  pub whole : x.version ≡ version H es (last_bits lone.0 256)
  pub some : 0 < x.version

pub own_lone_over : (H : List ℕ → List ℕ) (es : List (List ℕ × List ℕ)) (p : List Bool) (s : ℕ)
    (last : Option (List ℕ × List ℕ)) (x : SlotAt) (lone : List ℕ × List ℕ) → last_with (is_below H p) es ≡ last
    → slot_over H es p s last ≡ Some x → x.lone ≡ Some lone → OwnLone H es p x lone
own_lone_over H es p s None x lone l h is = absurd cc
own_lone_over H es p s (Some e) x lone l h is =
    let slot = own_slot_over H es p s (Some e) x l h in
    let found = lone_of (is_lone H es p e) (H e.0, leaf_digest H e.1) lone (cc) in
    let under = (last_found _ es e l).1 in
    let rest = begins-rest p _ under in
    let key : H e.0 ≡ lone.0 = ap (λ (v : List ℕ × List ℕ). v.0) found.1 in
    let bits : last_bits lone.0 256 ≡ p ++ rest.0 = ap (λ d. last_bits d 256) (sym key) ∙ rest.1 in
    let held : (q : List Bool) → below (map_of H es) p q ≡ cond (same_bits (p ++ q) (last_bits lone.0 256))
    (Some lone.1) None = lone_over H es p s _ x lone.0 lone.1 l h is in
    record {
      alone = record {
        rest = rest.0;
        begins = bits;
        alone = record {
          this = held rest.0 ∙ ap (λ b. cond b (Some lone.1) None) (ap (same_bits (p ++ rest.0)) bits
              ∙ same_bits-itself (p ++ rest.0));
          others = λ q n. held q ∙ ap (λ b. cond b (Some lone.1) None)
              (false_from_ne_true _ (λ t. n (append_cancel_left p q rest.0 (same_bits-true _ _ t ∙ bits))));
        };
        is_root = slot.digest;
      };
      whole = slot.version ∙ version_lone H p e es under found.0
          ∙ ap (λ d. version H es (last_bits d 256)) key;
      some = (let at = slot.version in let some = place_some _ es e l in omega arith);
    }

-- so it stands alone below the slot
own_stands : (H : List ℕ → List ℕ) (es : List (List ℕ × List ℕ)) (k : List ℕ) (depth : ℕ) (slot : SlotAt)
    (lone : List ℕ × List ℕ) → OwnLone H es (bits_through k depth) slot lone
    → StandsAlone H (bits_from k 0 (8 * depth + 8)) lone (slot_height depth) slot.digest
    (below (map_of H es) (bits_through k depth))
own_stands H es k depth slot lone own =
    let all : 8 * depth + 8 ≡ 8 * (depth + 1) = omega arith in
    record {
      rest = own.alone.rest;
      begins = rw (all, prefix_more k depth) own.alone.begins;
      alone = own.alone.alone;
      is_root = rw (height_through k depth) at own.alone.is_root;
    }

-- what a source of own pages has on a key digest's way
module _ {H : List ℕ → List ℕ} (gives : GivesHashes H) {bytes_at : List ℕ → ℕ → Option (List ℕ)} {k digest : List ℕ}
    {depth number : ℕ} {es : List (List ℕ × List ℕ)} (own : IsOwnAt H bytes_at k depth digest number es)
    (lt : depth < 32) (is : IsDigest k) where
  pub own_bytes : bytes_at (take depth k) number ≡ Some (page_bytes (page_of H es (bits_above k depth)))
  own_bytes =
      let bits : bits_of_bytes (take depth k) ≡ bits_above k depth = bits_of_taken k depth (omega arith) in
      let short : length (take depth k) < 32 = let all = length-take depth k in omega arith in
      rw (own.is_version ∙ ap (version H es) (sym bits))
      (own.pages (take depth k) (All-take IsByte depth k is.are_bytes) short (ap (stands H es) bits ∙ own.is_there)
      ∙ ap (λ p. Some (page_bytes (page_of H es p))) bits)

  pub own_page_there : ((slots : List SlotAt) → IsPage slots → bytes_at (take depth k) number ≢ Some (page_bytes slots))
      → ⊥
  own_page_there none = none _ (own_slots H es _ gives own.fits) own_bytes

-- and so of a page that it gives there
module _ {H : List ℕ → List ℕ} (gives : GivesHashes H) {bytes_at : List ℕ → ℕ → Option (List ℕ)} {k digest : List ℕ}
    {depth number : ℕ} {es : List (List ℕ × List ℕ)} (own : IsOwnAt H bytes_at k depth digest number es)
    (lt : depth < 32) (is : IsDigest k) {page : List SlotAt} (page_is : IsPage page)
    (at : IfSome (bytes_at (take depth k) number) (λ known. known ≡ page_bytes page)) where
  pub own_page_is : page ≡ page_of H es (bits_above k depth)
  own_page_is = one_page page (page_of H es (bits_above k depth)) page_is
      (own_slots H es (bits_above k depth) gives own.fits) (sym (rw (own_bytes gives own lt is) at at))

  pub own_page_value : page_value H depth page k ≢ digest → ⊥
  own_page_value other = other (rw own_page_is (own_value H es k depth lt is
      ∙ sym own.is_digest))

  -- the slot of the byte there
  slot_there : {o : Option SlotAt} → slot_at page (get_or k depth 0) ≡ o
      → slot_of H es (bits_above k depth) (get_or k depth 0) ≡ o
  slot_there there =
      let size = is.has_32 in
      sym (own_slot_at H es (bits_above k depth) (get_or k depth 0) (is.are_bytes depth 0 (omega arith)))
      ∙ ap (λ xs. slot_at xs (get_or k depth 0)) (sym own_page_is) ∙ there

  peers_there : (more : List (Option (List ℕ)))
      → IsPeers H (λ h. None) (below (map_of H es) (bits_through k depth)) (last_bits k (slot_height depth)) more
      → IsPeers H (λ h. None) (below (map_of H es) (bits_above k depth)) (last_bits k (256 - 8 * depth))
      (page_peers H depth page k ++ more)
  peers_there more rest = rw own_page_is (own_append H es k depth more lt is rest)

  -- a slot that isn't there
  pub missing_own : slot_at page (get_or k depth 0) ≡ None → IsOwnWay H es k depth (page_peers H depth page k) None
  missing_own none =
      let nothing : (q : List Bool) → below (map_of H es) (bits_through k depth) q ≡ None =
      no_slot H es (bits_through k depth) (get_or k depth 0) _ refl (slot_there none) in
      record {
        are_peers = rw (← append-nil (page_peers H depth page k)) (peers_there []
            (nothing_end H (below (map_of H es) (bits_through k depth)) (last_bits k (slot_height depth)) nothing));
        is_leaf = own_whole H es k depth lt ∙ nothing (last_bits k (slot_height depth));
        is_index = tt;
      }

  -- the way ends at a lone key
  lone_there : {slot : SlotAt} {lone : List ℕ × List ℕ} → slot_at page (get_or k depth 0) ≡ Some slot
      → slot.lone ≡ Some lone → OwnLone H es (bits_through k depth) slot lone
  lone_there there is_lone_key = own_lone_over H es (bits_through k depth) (get_or k depth 0) _ _ _ refl
      (slot_there there) is_lone_key

  pub lone_own : {slot : SlotAt} {lone : List ℕ × List ℕ} {more : List (Option (List ℕ))} {held : Option (ℕ × List ℕ)}
      → slot_at page (get_or k depth 0) ≡ Some slot → slot.lone ≡ Some lone → EndsAt H k depth slot lone more held
      → IsOwnWay H es k depth (page_peers H depth page k ++ more) held
  lone_own {slot} {lone} {more} {held} there is_lone_key ends =
      let own_is = lone_there there is_lone_key in
      let below_it = ends.own (below (map_of H es) (bits_through k depth)) (own_stands H es k depth slot lone own_is) in
      record {
        are_peers = peers_there more below_it.0;
        is_leaf = own_whole H es k depth lt ∙ below_it.1;
        is_index = IfSome_then held ends.index (λ h is. is.0 ∙ own_is.whole ∙ ap (version H es) (sym is.1));
      }

  -- an own page's lone key has an end
  pub own_lone_end : {slot : SlotAt} {lone : List ℕ × List ℕ} → slot_at page (get_or k depth 0) ≡ Some slot
      → slot.lone ≡ Some lone → IsNoLoneKey H k depth slot lone → ⊥
  own_lone_end {slot} {lone} there is_lone_key fault =
      let own_is = lone_there there is_lone_key in
      fault (below (map_of H es) (bits_through k depth)) (own_stands H es k depth slot lone own_is) own_is.some

  -- the way goes on below a slot
  own_next : {slot : SlotAt} → slot_at page (get_or k depth 0) ≡ Some slot → slot.lone ≡ None
      → IsOwnAt H bytes_at k (depth + 1) slot.digest slot.version es
  own_next {slot} there no_lone =
      let own_is = own_slot_is H es (bits_above k depth) (get_or k depth 0) slot (slot_there there) in
      let more = prefix_more k depth in
      let height : 256 - length (bits_through k depth) ≡ 256 - 8 * (depth + 1) =
      height_through k depth ∙ (let same : slot_height depth ≡ 256 - 8 * (depth + 1) = omega arith in same) in
      record {
        pages = own.pages;
        fits = own.fits;
        is_there = rw more (own_is.page no_lone);
        is_version = rw more own_is.version;
        is_digest = rw (more, ← height) own_is.digest;
      }

  pub next_own : {slot : SlotAt} {more : List (Option (List ℕ))} {held : Option (ℕ × List ℕ)}
      → slot_at page (get_or k depth 0) ≡ Some slot → slot.lone ≡ None
      → (IsOwnAt H bytes_at k (depth + 1) slot.digest slot.version es → IsOwnWay H es k (depth + 1) more held)
      → IsOwnWay H es k depth (page_peers H depth page k ++ more) held
  next_own {slot} {more} {held} there no_lone way =
      let rest = way (own_next there no_lone) in
      let next : slot_height depth ≡ 256 - 8 * (depth + 1) = omega arith in
      record {
        are_peers = peers_there more (rw (next, ← prefix_more k depth) rest.are_peers);
        is_leaf = rest.is_leaf;
        is_index = rest.is_index;
      }

  pub own_next_end : {slot : SlotAt} → slot_at page (get_or k depth 0) ≡ Some slot → slot.lone ≡ None
      → ((more : List (List ℕ × List ℕ)) → IsOwnAt H bytes_at k (depth + 1) slot.digest slot.version more → ⊥) → ⊥
  own_next_end there no_lone fault = fault es (own_next there no_lone)

-- no page stands at a whole digest
pub all_one : (H : List ℕ → List ℕ) (p : List Bool) (e : List ℕ × List ℕ) (es : List (List ℕ × List ℕ)) → length p ≡ 256
    → is_below H p e ≡ true → is_lone H es p e ≡ true
all_one H p e es n t = all_pass _ es (λ x c. one x _ refl)
  where
    whole : (f : List ℕ × List ℕ) → is_below H p f ≡ true → p ≡ key_bits H f.0
    whole f under = begins-same p _ [] (n ∙ sym (all_bits H f.0)) (rw (append-nil (key_bits H f.0)) under)

    one : (x : List ℕ × List ℕ) (b : Bool) → is_below H p x ≡ b
        → (not b || same_bits (key_bits H e.0) (key_bits H x.0)) ≡ true
    one x true u = rw (sym (whole x u) ∙ whole e t) (same_bits-itself (key_bits H e.0))
    one x false u = refl

pub no_way : (H : List ℕ → List ℕ) (bytes_at : List ℕ → ℕ → Option (List ℕ)) (k digest : List ℕ) (depth number : ℕ)
    (es : List (List ℕ × List ℕ)) → depth ≡ 32 → IsOwnAt H bytes_at k depth digest number es → ⊥
no_way H bytes_at k digest depth number es e own = by_last _ refl own.is_there
  where
    size : length (bits_from k 0 (8 * depth)) ≡ 256
    size = length-bits_from k 0 _ ∙ (let n : 8 * depth ≡ 256 = omega arith in n)

    by_last : (last : Option (List ℕ × List ℕ)) → last_with (is_below H (bits_from k 0 (8 * depth))) es ≡ last
        → stands_over H es (bits_from k 0 (8 * depth)) last ≡ true → ⊥
    by_last None l h = cc
    by_last (Some f) l h =
        let lone = all_one H _ f es size ((last_found _ es f l).1) in
        let no : (eqb (length (bits_from k 0 (8 * depth))) 0 || not (is_lone H es (bits_from k 0 (8 * depth)) f))
        ≡ false = rw (size, lone) refl in
        cc
