-- What stands below a slot of insertions.
use Rattle.std.proofs.Common.{◌≡◌, ◌≢◌, ℕ, ◌+◌, ◌*◌, ◌<◌, Bool, true, false, List, [], ◌∷◌, ◌++◌, length, take, Option, Some, None, refl, sym, ap, ◌∙◌, arith, length-append, eq-eqb}
use Rattle.std.proofs.lemmas.Bool.{ne_eqb}
use Rattle.std.specs.Prelude.{slice_index, IfSome}
use Rattle.std.specs.List.{All, filter_map}
use Rattle.warg_crypto.specs.Digests.{IsByte}
use Rattle.warg_crypto.specs.Collisions.{GivesHashes}
use Rattle.warg_crypto.specs.Tree.{leaf_digest}
use Rattle.warg_map.specs.Last.{last_with}
use Rattle.warg_pages.specs.Prefixes.{byte_bits, is_below, bits_of_bytes, version}
use Rattle.warg_pages.specs.Slots.{SlotAt, IsPage, is_lone, slot_over, slot_of, numbers, page_of}
use Rattle.warg_pages.specs.PageBytes.{page_bytes}
use Rattle.warg_pages.specs.PageInsertions.{with_slot}
use Rattle.warg_pages.specs.Private.Updates.{IsOwnBelow, lone_slot, slot_one_down}
use Rattle.warg_pages.proofs.PageFormat.{one_page}
use Rattle.warg_pages.proofs.KeyPrefixes.{length-bits_from}
use Rattle.warg_pages.proofs.OwnPages.{own_slots}
use Rattle.warg_pages.proofs.OwnDescent.{own_slot_over}
use Rattle.warg_pages.proofs.LoneSlots.{lone_of, some_same}
use Rattle.warg_pages.proofs.Members.{none_of_each}
use Rattle.warg_pages.proofs.LastPassing.{last_found}
use Rattle.warg_pages.proofs.OneMore.{with_one}
use Rattle.warg_pages.proofs.MoreInsertions.{none_longer, lone_longer, lone_elsewhere}
use Rattle.warg_pages.proofs.PrefixBytes.{length-bits, begins-more, taken_is}
use Rattle.warg_pages.proofs.SlotsAfter.{lone_slot_is}

pub nothing_below : (H : List ℕ → List ℕ) (es : List (List ℕ × List ℕ)) (p : List Bool) (s : ℕ)
    (last : Option (List ℕ × List ℕ)) → last_with (is_below H p) es ≡ last → None ≡ slot_over H es p s last
    → page_of H es p ≡ []
unfolding page_of
nothing_below H es p s None l e = none_of_each _ (numbers 0 256)
    (λ t. ap (slot_over H es (p ++ byte_bits t) t) (none_longer H p _ es l))
nothing_below H es p s _ l e = absurd cc

-- one slot at a byte
one_slot : (f : ℕ → Option SlotAt) (x : SlotAt) → x.byte < 256 → f x.byte ≡ Some x
    → ((t : ℕ) → t < 256 → ¬ (t ≡ x.byte) → f t ≡ None) → filter_map f (numbers 0 256) ≡ x ∷ []
unfolding with_slot
one_slot f x lt here other = with_one (λ t. None) f x 0 256 (λ t. tt) other here (omega arith) (omega arith)
    (omega arith) ∙ ap (with_slot x) (none_of_each (λ t. None) (numbers 0 256) (λ t. refl))

-- a lone key below a prefix
pub one_below : (H : List ℕ → List ℕ) → GivesHashes H → (es : List (List ℕ × List ℕ)) (p : List Bool) (depth : ℕ)
    (e : List ℕ × List ℕ) → length p ≡ 8 * depth → depth < 32 → last_with (is_below H p) es ≡ Some e
    → is_lone H es p e ≡ true
    → page_of H es p ≡ lone_slot H depth (slice_index (H e.0) depth) (version H es p) (H e.0, leaf_digest H e.1) ∷ []
unfolding page_of
one_below H gives es p depth e size lt last lone =
    one_slot _ (lone_slot H depth _ (version H es p) (H e.0, leaf_digest H e.1)) fits here other
  where
    fits : slice_index (H e.0) depth < 256
    fits = let is = gives (e.0) in let all = is.has_32 in is.are_bytes depth 0 (omega arith)

    under : is_below H p e ≡ true
    under = (last_found _ es e last).1

    sizes : (t : ℕ) → length (p ++ byte_bits t) ≡ 8 * depth + 8
    sizes t = length-append p _ ∙ (let n = length-bits_from (t ∷ []) 0 8 in omega arith)

    here : slot_of H es p (slice_index (H e.0) depth)
        ≡ Some (lone_slot H depth (slice_index (H e.0) depth) (version H es p) (H e.0, leaf_digest H e.1))
    here =
        let s : ℕ = slice_index (H e.0) depth in
        let there : is_below H (p ++ byte_bits s) e ≡ true = begins-more _ p depth s (gives _) size lt fits
        ∙ rw under (eq-eqb s s refl) in
        let long = lone_longer H es p _ e last lone there in
        lone_slot_is H es _ depth s e (sizes s) lt long.is_last long.alone
        ∙ ap (λ v. Some (lone_slot H depth s v (H e.0, leaf_digest H e.1))) long.is_version

    other : (t : ℕ) → t < 256 → ¬ (t ≡ slice_index (H e.0) depth) → slot_of H es p t ≡ None
    other t low apart =
        let off : is_below H (p ++ byte_bits t) e ≡ false = begins-more _ p depth t (gives _) size lt low
        ∙ rw under (ne_eqb _ t (λ same. apart (sym same))) in
        ap (slot_over H es (p ++ byte_bits t) t) (lone_elsewhere H es p _ e lone off)

-- what an own slot with a lone key says of it
pub record OwnLoneBelow (H : List ℕ → List ℕ) (es : List (List ℕ × List ℕ)) (prefix : List ℕ) (x : SlotAt)
    (lone : List ℕ × List ℕ) : Type 0 where
  pub begins : take (length prefix) lone.0 ≡ prefix
  pub page : page_of H es (bits_of_bytes prefix) ≡ slot_one_down H prefix x.version lone ∷ []

own_over : (H : List ℕ → List ℕ) → GivesHashes H → (es : List (List ℕ × List ℕ)) (prefix : List ℕ) (s : ℕ)
    (last : Option (List ℕ × List ℕ)) (x : SlotAt) (lone : List ℕ × List ℕ) → All IsByte prefix → length prefix < 32
    → last_with (is_below H (bits_of_bytes prefix)) es ≡ last → Some x ≡ slot_over H es (bits_of_bytes prefix) s last
    → x.lone ≡ Some lone → OwnLoneBelow H es prefix x lone
own_over H gives es prefix s None x lone bytes short l e is = absurd cc
own_over H gives es prefix s (Some f) x lone bytes short l e is =
    let p : List Bool = bits_of_bytes prefix in
    let size : length p ≡ 8 * length prefix = length-bits prefix in
    let same = some_same e in
    let found = lone_of (is_lone H es p f) (H f.0, leaf_digest H f.1) lone (sym (ap (λ (y : SlotAt). y.lone) same)
    ∙ is) in
    let under = (last_found (is_below H p) es f l).1 in
    let begins = taken_is (H f.0) prefix (gives f.0) bytes (omega arith) under in
    let page = one_below H gives es p _ f size short l found.0 in
    let version_is : version H es p ≡ x.version = sym (ap (λ (y : SlotAt). y.version) same) in
    rw (← found.1) record {
      begins = begins;
      page = page ∙ ap (λ v. lone_slot H (length prefix) (slice_index (H f.0) (length prefix)) v
          (H f.0, leaf_digest H f.1) ∷ []) version_is;
    }

-- what an own slot of a page says of it
module _ {H : List ℕ → List ℕ} (gives : GivesHashes H) {bytes_at : List ℕ → ℕ → Option (List ℕ)} {prefix : List ℕ}
    {x : SlotAt} {es : List (List ℕ × List ℕ)} (own : IsOwnBelow H bytes_at prefix (Some x) es)
    (short : length prefix < 32) where
  pub own_lone_below : {lone : List ℕ × List ℕ} → x.lone ≡ Some lone → OwnLoneBelow H es prefix x lone
  own_lone_below {lone} is = own_over H gives es prefix own.byte (last_with (is_below H (bits_of_bytes prefix)) es) x
      lone own.are_bytes short refl own.is_slot is

  own_bytes_below : x.lone ≡ None → bytes_at prefix x.version ≡ Some (page_bytes (page_of H es (bits_of_bytes prefix)))
  own_bytes_below none =
      let slot = own_slot_over H es (bits_of_bytes prefix) own.byte _ x refl (sym own.is_slot) in
      rw slot.version (own.pages prefix own.are_bytes short (slot.page none))

  pub own_page_below : {page : List SlotAt} → IsPage page
      → IfSome (bytes_at prefix x.version) (λ known. known ≡ page_bytes page) → x.lone ≡ None
      → page ≡ page_of H es (bits_of_bytes prefix)
  own_page_below {page} is at none = one_page page _ is (own_slots H es _ gives own.fits)
      (sym (rw (own_bytes_below none) at at))

  pub own_page_refused : ((slots : List SlotAt) → IsPage slots → bytes_at prefix x.version ≢ Some (page_bytes slots))
      → x.lone ≡ None → ⊥
  own_page_refused fault none = fault (page_of H es (bits_of_bytes prefix))
      (own_slots H es _ gives own.fits) (own_bytes_below none)
