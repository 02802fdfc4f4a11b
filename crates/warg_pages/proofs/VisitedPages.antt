-- The pages of a visit, and where they are those of insertions.
use Rattle.std.proofs.Common.{◌≡◌, ◌≢◌, ℕ, zero, suc, ◌+◌, ◌-◌, ◌*◌, ◌^◌, ◌<◌, Bool, true, false, cond, List, [], ◌∷◌, ◌++◌, length, take, get_or, Option, Some, None, refl, sym, ap, ◌∙◌, arith, length-append}
use Rattle.std.proofs.lemmas.List.Elements.{All-append, All-cons, All-contains}
use Rattle.std.specs.Prelude.{IfSome}
use Rattle.std.specs.Option.{option_map}
use Rattle.std.specs.List.{Contains}
use Rattle.warg_crypto.specs.Digests.{IsByte, IsDigest}
use Rattle.warg_crypto.specs.Collisions.{GivesHashes}
use Rattle.warg_crypto.specs.EmptyTrees.{empty_root}
use Rattle.warg_map.specs.Last.{last_with}
use Rattle.warg_map.specs.Sparse.{root_of_levels, map_of}
use Rattle.warg_pages.specs.Prefixes.{bits_of_bytes, byte_bits, is_below, below, version, begins as begins_with}
use Rattle.warg_pages.specs.Slots.{SlotAt, IsPage, page_of, IsSlot}
use Rattle.warg_pages.specs.Pages.{page_digest, slot_height}
use Rattle.warg_pages.specs.PageBytes.{page_bytes}
use Rattle.warg_pages.specs.ChangedPages.{ChangedPageAt}
use Rattle.warg_pages.specs.ProvedKeys.{IsOwnSource}
use Rattle.warg_pages.specs.Visits.{held_by, IsLoneBelow, AreOfSlot, AreOfSlots, AreFromWhere, AreAllPagesWhere}
use Rattle.warg_pages.specs.Private.Visited.{IsOwnFrom, IsOwnSlot}
use Rattle.warg_pages.proofs.FinalPeers.{own_at_root}
use Rattle.warg_pages.proofs.LoneSlots.{lone_over}
use Rattle.warg_pages.proofs.OwnDescent.{own_slot_is}
use Rattle.warg_pages.proofs.OwnPages.{own_slots}
use Rattle.warg_pages.proofs.OwnWays.{own_lone_over, no_way}
use Rattle.warg_pages.proofs.PageFormat.{one_page}
use Rattle.warg_pages.proofs.PageRoots.{from_page, root-same, in_page, begins-append}
use Rattle.warg_pages.proofs.PagesBelow.{page_at_bytes}
use Rattle.warg_pages.proofs.PrefixBytes.{length-bits, bits-more, taken_is}
use Rattle.warg_map.specs.Bits.{last_bits}

-- slot after slot
module _ (IsLone : List ℕ → SlotAt → List ℕ × List ℕ → Type 0)
    (From : List ℕ → ℕ → List ℕ → List ChangedPageAt → Type 0) (prefix : List ℕ) where
  pub slots_more : (items : List SlotAt) (x : SlotAt) (rest : List SlotAt) (these more : List ChangedPageAt)
      → items ≡ x ∷ rest → AreOfSlot IsLone From prefix x x.lone these → AreOfSlots IsLone From prefix rest more
      → AreOfSlots IsLone From prefix items (these ++ more)
  unfolding AreOfSlots
  slots_more items x rest these more e first others =
      rw e (these, more, refl, first, others)

  pub no_slots : (items : List SlotAt) → items ≡ [] → AreOfSlots IsLone From prefix items []
  unfolding AreOfSlots
  no_slots items e =
      rw e refl

-- a page and those below it
module _ (H : List ℕ → List ℕ) (IsLone : List ℕ → SlotAt → List ℕ × List ℕ → Type 0)
    (IsThere : List ℕ → ℕ → List SlotAt → Type 0) where
  pub page_from : (prefix digest : List ℕ) (version : ℕ) (slots : List SlotAt) (more : List ChangedPageAt)
      → length prefix < 32 → IsPage slots → IsThere prefix version slots → page_digest H (length prefix) slots ≡ digest
      → AreOfSlots IsLone (AreFromWhere H IsLone IsThere (31 - length prefix)) prefix slots more
      → AreFromWhere H IsLone IsThere (32 - length prefix) prefix version digest
      (record { prefix = prefix; version = version; page = slots } ∷ more)
  unfolding AreFromWhere
  page_from prefix digest version slots more lt is there same others =
      let n : suc (31 - length prefix) ≡ 32 - length prefix = omega arith in
      rw (← n) (slots, more, refl, is, there, same, others)

  -- all pages of a root
  pub all_from : (root : List ℕ) (version : ℕ) (pages : List ChangedPageAt) → ¬ (version ≡ 0)
      → AreFromWhere H IsLone IsThere 32 [] version root pages → AreAllPagesWhere H IsLone IsThere root version pages
  all_from root zero pages some from = absurd (some refl)
  all_from root _ pages some from = from

  pub all_of_none : (root : List ℕ) (version : ℕ) → version ≡ 0 → root ≡ empty_root H 256
      → AreAllPagesWhere H IsLone IsThere root version []
  all_of_none root version none empty =
      rw none (refl, empty)

-- where the pages are those of insertions
pub own_root : (H : List ℕ → List ℕ) (bytes_at : List ℕ → ℕ → Option (List ℕ)) (root : List ℕ) (count : ℕ)
    (es : List (List ℕ × List ℕ)) → count < 2 ^ 64 → ¬ (count ≡ 0) → IsOwnSource H bytes_at root count es
    → IsOwnFrom H bytes_at [] count root es
own_root H bytes_at root count es fits some own =
    let at = own_at_root H bytes_at root [] count es fits some own in record {
      pages = at.pages;
      fits = at.fits;
      are_bytes = λ i d lt. absurd (omega arith);
      is_there = at.is_there;
      is_version = at.is_version;
      is_digest = at.is_digest;
    }

module _ {H : List ℕ → List ℕ} (gives : GivesHashes H) {bytes_at : List ℕ → ℕ → Option (List ℕ)}
    {prefix digest : List ℕ} {number : ℕ} {es : List (List ℕ × List ℕ)}
    (own : IsOwnFrom H bytes_at prefix number digest es) (lt : length prefix < 32) where
  own_bytes : bytes_at prefix number ≡ Some (page_bytes (page_of H es (bits_of_bytes prefix)))
  own_bytes = rw own.is_version (own.pages prefix own.are_bytes lt own.is_there)

  own_is_page : IsPage (page_of H es (bits_of_bytes prefix))
  own_is_page = own_slots H es _ gives own.fits

  pub own_refused : ((slots : List SlotAt) → IsPage slots → bytes_at prefix number ≢ Some (page_bytes slots)) → ⊥
  own_refused fault = fault _ own_is_page own_bytes

  pub own_page : {page : List SlotAt} → IsPage page → IfSome (bytes_at prefix number) (λ known. known ≡ page_bytes page)
      → page ≡ page_of H es (bits_of_bytes prefix)
  own_page {page} is at = one_page page _ is own_is_page (sym (rw own_bytes at at))

  pub own_digest : {page : List SlotAt} → IsPage page
      → IfSome (bytes_at prefix number) (λ known. known ≡ page_bytes page) → page_digest H (length prefix) page ≡ digest
  own_digest is at = rw (own_page is at) (page_at_bytes H es prefix lt
      ∙ sym own.is_digest)

pub own_end : {H : List ℕ → List ℕ} {bytes_at : List ℕ → ℕ → Option (List ℕ)} {prefix digest : List ℕ} {number : ℕ}
    {es : List (List ℕ × List ℕ)} → IsOwnFrom H bytes_at prefix number digest es → length prefix ≡ 32 → ⊥
own_end {H} {bytes_at} {prefix} {digest} {number} {es} own full =
    no_way H bytes_at prefix digest _ number es full record {
      pages = own.pages;
      fits = own.fits;
      is_there = own.is_there;
      is_version = own.is_version;
      is_digest = own.is_digest;
    }

-- a slot of a page is that of its byte
pub own_slot : {H : List ℕ → List ℕ} {bytes_at : List ℕ → ℕ → Option (List ℕ)} {prefix digest : List ℕ} {number : ℕ}
    {page : List SlotAt} {es : List (List ℕ × List ℕ)} → IsOwnFrom H bytes_at prefix number digest es
    → page ≡ page_of H es (bits_of_bytes prefix) → (i : ℕ) (x : SlotAt) → i < length page → x ≡ get_or page i x
    → IsOwnSlot H bytes_at prefix x es
own_slot {H} {prefix = prefix} {page = page} {es = es} own same i x lt e =
    let there : Contains page x = (i, lt, sym e) in
    let found = from_page H es _ x (rw same at there) in
    record {
      pages = own.pages;
      fits = own.fits;
      are_bytes = own.are_bytes;
      is_byte = found.to;
      is_slot = found.is_slot;
    }

-- what stands below a slot
pub own_below : {H : List ℕ → List ℕ} {bytes_at : List ℕ → ℕ → Option (List ℕ)} {prefix longer : List ℕ} {x : SlotAt}
    {es : List (List ℕ × List ℕ)} → IsOwnSlot H bytes_at prefix x es → longer ≡ prefix ++ x.byte ∷ [] → x.lone ≡ None
    → IsOwnFrom H bytes_at longer x.version x.digest es
own_below {H} {prefix = prefix} {longer = longer} {x = x} {es = es} own e none =
    let p : List Bool = bits_of_bytes prefix in
    let slot = own_slot_is H es p x.byte x own.is_slot in
    let bits : bits_of_bytes longer ≡ p ++ byte_bits x.byte = rw e (bits-more prefix x.byte) in
    let height : 256 - length (p ++ byte_bits x.byte) ≡ 256 - 8 * length longer =
    (let n = ap length bits in let m = length-bits longer in omega arith) in record {
      pages = own.pages;
      fits = own.fits;
      are_bytes = rw e (All-append IsByte prefix (x.byte ∷ []) own.are_bytes (All-cons IsByte x.byte [] own.is_byte
          (λ i d lt. absurd (omega arith))));
      is_there = rw bits (slot.page none);
      is_version = rw bits slot.version;
      is_digest = rw (bits, ← height) slot.digest;
    }

held_alone : (lone : List ℕ × List ℕ) (b : Bool) → cond b (Some lone.1) None
    ≡ option_map (λ (l : List ℕ × List ℕ). l.1) (cond b (Some lone) None)
held_alone lone true = refl
held_alone lone false = refl

pub own_lone : {H : List ℕ → List ℕ} {bytes_at : List ℕ → ℕ → Option (List ℕ)} {prefix : List ℕ} {x : SlotAt}
    {lone : List ℕ × List ℕ} {es : List (List ℕ × List ℕ)} → GivesHashes H → IsOwnSlot H bytes_at prefix x es
    → length prefix < 32 → x.lone ≡ Some lone → IsLoneBelow H prefix x lone
own_lone {H} {prefix = prefix} {x = x} {lone = lone} {es = es} gives own lt is =
    record { begins = begins; digest = digest }
  where
    p : List Bool
    p = bits_of_bytes prefix ++ byte_bits x.byte

    longer : List ℕ
    longer = prefix ++ x.byte ∷ []

    bits : bits_of_bytes longer ≡ p
    bits = bits-more prefix x.byte

    size : length longer ≡ length prefix + 1
    size = length-append prefix (x.byte ∷ [])

    last : Option (List ℕ × List ℕ)
    last = last_with (is_below H p) es

    is_digest : IsDigest lone.0
    is_digest = ((All-contains IsSlot (page_of H es (bits_of_bytes prefix)) x
        (own_slots H es _ gives own.fits).are_slots
        (in_page H es (bits_of_bytes prefix) x.byte own.is_byte own.is_slot)).lone lone is).0

    begins : take (length prefix + 1) lone.0 ≡ longer
    begins =
        let slot = own_lone_over H es p x.byte last x lone refl own.is_slot is in
        let under : begins_with (bits_of_bytes longer) (last_bits lone.0 256) ≡ true =
        rw (bits, slot.alone.begins) (begins-append p slot.alone.rest) in
        rw (← size) (taken_is lone.0 longer is_digest (All-append IsByte prefix (x.byte ∷ []) own.are_bytes
        (All-cons IsByte x.byte [] own.is_byte (λ i d lt. absurd (omega arith)))) (omega (arith, size)) under)

    digest : x.digest ≡ root_of_levels H (slot_height (length prefix))
        (λ q. held_by (lone ∷ []) (bits_of_bytes longer ++ q))
    digest =
        let height : 256 - length p ≡ slot_height (length prefix) =
        (let n = ap length bits in let m = length-bits longer in omega (arith, size)) in
        (own_slot_is H es _ x.byte x own.is_slot).digest ∙ ap (λ k. root_of_levels H k (below (map_of H es) p)) height
        ∙ root-same H _ (below _ p) (λ q. held_by (lone ∷ []) (bits_of_bytes longer ++ q))
        (λ q. lone_over H es p x.byte last x lone.0 lone.1 refl own.is_slot is q ∙ held_alone lone _
        ∙ ap (λ t. held_by (lone ∷ []) (t ++ q)) (sym bits))
