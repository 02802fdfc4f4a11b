-- What pages hold under a key digest, on its way down.
use Rattle.std.proofs.Common.{◌≡◌, ◌≢◌, ℕ, suc, ◌+◌, ◌-◌, ◌<◌, List, [], ◌∷◌, ◌++◌, length, take, get_or, Option, Some, None, refl, sym, ap, ◌∙◌, arith, inl, inr, length-append}
use Rattle.std.proofs.lemmas.List.{append_cancel_left, take_more, length-take}
use Rattle.std.proofs.lemmas.List.Elements.{Contains-append_cases, Contains-append_left, Contains-append_right, All-contains}
use Rattle.std.specs.Prelude.{IfSome, MatchOption}
use Rattle.std.specs.List.{Contains}
use Rattle.std.specs.Option.{is_some}
use Rattle.warg_crypto.specs.Digests.{IsDigest}
use Rattle.warg_pages.specs.PageBytes.{page_bytes}
use Rattle.warg_pages.specs.Slots.{SlotAt, IsSlot, IsPage}
use Rattle.warg_pages.specs.Pages.{slot_at}
use Rattle.warg_pages.specs.ChangedPages.{ChangedPageAt}
use Rattle.warg_pages.specs.Visits.{IsLoneBelow, AreOfSlot, AreOfSlots, AreFromWhere, AreFrom, IsAllowed, lone_slots}
use Rattle.warg_pages.specs.Audits.{IsHeldIn}
use Rattle.warg_pages.proofs.Members.{among, first_among, later_among, only_one, in_filter, in_flat_map, from_flat_map}
use Rattle.warg_pages.proofs.NumberedSlots.{slot_there, slot_found}
use Rattle.warg_pages.proofs.PageFormat.{one_page}
use Rattle.warg_pages.proofs.VisitedRoots.{with_lone, in_page, slot_held, pages_held, longer_held}
use Rattle.warg_pages.proofs.SlotPages.{of_member, of_page}

among_lone : (these pages : List ChangedPageAt) → ((p : ChangedPageAt) → Contains these p → Contains pages p)
    → (y : SlotAt) → Contains (lone_slots these) y → Contains (lone_slots pages) y
among_lone these pages within y c =
    let at = from_flat_map (λ (p : ChangedPageAt). with_lone p.page) these y c in
    in_flat_map (λ (p : ChangedPageAt). with_lone p.page) pages y (within at.0 at.1) at.2

-- what is below the slots of a page at a prefix
module _ (H : List ℕ → List ℕ) (AreFrom : List ℕ → ℕ → List ℕ → List ChangedPageAt → Type 0) (prefix : List ℕ) where
  -- the slot to which a slot of a page, or one below it, belongs
  record IsOwned (slots : List SlotAt) (y : SlotAt) : Type 0 where
    pub owner : SlotAt
    pub first : List ChangedPageAt
    pub is_slot : Contains slots owner
    pub are_of : AreOfSlot (IsLoneBelow H) AreFrom prefix owner owner.lone first
    pub within : Contains (owner ∷ lone_slots first) y

  owner_of : (slots : List SlotAt) (pages : List ChangedPageAt) → AreOfSlots (IsLoneBelow H) AreFrom prefix slots pages
      → (y : SlotAt) → Contains (slots ++ lone_slots pages) y → IsOwned slots y
  owner_of slots pages h y c = elim (Contains-append_cases slots (lone_slots pages) y c) [
    | inl own ↦ (let at = of_member (IsLoneBelow H) AreFrom prefix slots pages h y own in record {
      owner = y;
      first = at.these;
      is_slot = own;
      are_of = at.of_slot;
      within = first_among y (lone_slots at.these);
    })
    | inr below ↦
        let lone = from_flat_map (λ (p : ChangedPageAt). with_lone p.page) pages y below in
        let at = of_page (IsLoneBelow H) AreFrom prefix slots pages h lone.0 lone.1 in
        record {
          owner = at.slot;
          first = at.these;
          is_slot = at.in_slots;
          are_of = at.of_slot;
          within = later_among at.slot (lone_slots at.these) y
              (in_flat_map (λ (p : ChangedPageAt). with_lone p.page) at.these y at.there lone.2);
        }
  ]

  -- what is below the same slot
  same_slot : (owner x : SlotAt) (o : Option (List ℕ × List ℕ)) (first : List ChangedPageAt) → owner ≡ x → x.lone ≡ o
      → AreOfSlot (IsLoneBelow H) AreFrom prefix owner owner.lone first
      → AreOfSlot (IsLoneBelow H) AreFrom prefix x o first
  same_slot owner x o first same lone are = rw (← lone, ← same) are

-- below 32 bytes there is no page
pub no_page : (H : List ℕ → List ℕ) (IsThere : List ℕ → ℕ → List SlotAt → Type 0) (depth : ℕ) (prefix : List ℕ)
    (version : ℕ) (digest : List ℕ) (all : List ChangedPageAt) → depth ≡ 32
    → AreFrom H IsThere (32 - depth) prefix version digest all → ⊥
unfolding AreFromWhere
no_page H IsThere depth prefix version digest all e h =
    let none : 32 - depth ≡ 0 = omega arith in
    rw none at h

-- a step of a key digest's way
record IsStep (key : List ℕ) (depth : ℕ) : Type 0 where
  pub size : length (take depth key) + suc (31 - depth) ≡ 32
  pub begins : take (length (take depth key) + 1) key ≡ take depth key ++ get_or key depth 0 ∷ []
  pub longer : take depth key ++ get_or key depth 0 ∷ [] ≡ take (depth + 1) key
  pub levels : 32 - depth ≡ suc (31 - depth)
  pub fewer : 31 - depth ≡ 32 - (depth + 1)

step : (key : List ℕ) (depth : ℕ) → IsDigest key → depth < 32 → IsStep key depth
step key depth is lt =
    let all : length (take depth key) ≡ depth = omega (arith, length-take depth key) in
    let more = take_more key depth 0 (omega arith) in
    record {
      size = omega arith;
      begins = rw all more;
      longer = sym more;
      levels = omega arith;
      fewer = omega arith;
    }

-- the pages of a visit from a prefix of a key digest on
abbrev pub IsFrom : (List ℕ → List ℕ) → (List ℕ → ℕ → Option (List ℕ)) → Type 0 → List ℕ → ℕ → ℕ → List ℕ
    → List ChangedPageAt → Type 0
IsFrom H bytes_at tells_all key depth version digest all =
    AreFrom H (IsAllowed bytes_at tells_all) (32 - depth) (take depth key) version digest all

pub page_there : (H : List ℕ → List ℕ) (bytes_at : List ℕ → ℕ → Option (List ℕ)) (tells_all : Type 0) (key : List ℕ)
    (depth version : ℕ) (digest : List ℕ) (all : List ChangedPageAt) → depth < 32
    → ((slots : List SlotAt) → IsPage slots → bytes_at (take depth key) version ≢ Some (page_bytes slots)) → tells_all
    → IsFrom H bytes_at tells_all key depth version digest all → ⊥
unfolding AreFromWhere
page_there H bytes_at tells_all key depth version digest all lt none tells h =
    let levels : 32 - depth ≡ suc (31 - depth) = omega arith in
    let from = rw levels at h in
    none from.0 from.3 (from.4.told tells)

-- of a visit, the page on a key digest's way that was read there
pub record IsRead (H : List ℕ → List ℕ) (bytes_at : List ℕ → ℕ → Option (List ℕ)) (tells_all : Type 0) (key : List ℕ)
    (depth version : ℕ) (digest : List ℕ) (all : List ChangedPageAt) (page : List SlotAt) : Type 0 where
  pub is_key : IsDigest key
  pub above : depth < 32
  pub is_page : IsPage page
  pub stands : IfSome (bytes_at (take depth key) version) (λ stands. stands ≡ page_bytes page)
  pub tells : tells_all
  pub from : IsFrom H bytes_at tells_all key depth version digest all

module _ {H : List ℕ → List ℕ} {bytes_at : List ℕ → ℕ → Option (List ℕ)} {tells_all : Type 0} {key : List ℕ}
    {depth version : ℕ} {digest : List ℕ} {all : List ChangedPageAt} {page : List SlotAt}
    (read : IsRead H bytes_at tells_all key depth version digest all page) where
  -- the pages below it
  abbrev Below : List ℕ → ℕ → List ℕ → List ChangedPageAt → Type 0
  Below = AreFrom H (IsAllowed bytes_at tells_all) (31 - depth)

  from_here : AreFrom H (IsAllowed bytes_at tells_all) (suc (31 - depth)) (take depth key) version digest all
  from_here = let levels = (step key depth read.is_key read.above).levels in rw levels at read.from

  same_page : (slots : List SlotAt) → IsPage slots → IsAllowed bytes_at tells_all (take depth key) version slots
      → slots ≡ page
  same_page slots is allowed = one_page slots page is read.is_page (rw (allowed.told read.tells) at read.stands)

  -- a lone key is below the slot of its next byte
  record IsOnWay (y : SlotAt) : Type 0 where
    pub owner : SlotAt
    pub first : List ChangedPageAt
    pub found : slot_at page (get_or key depth 0) ≡ Some owner
    pub are_of : AreOfSlot (IsLoneBelow H) Below (take depth key) owner owner.lone first
    pub within : Contains (owner ∷ lone_slots first) y

  on_way : (y : SlotAt) (leaf : List ℕ) → Contains (lone_slots all) y → y.lone ≡ Some (key, leaf) → IsOnWay y
  unfolding AreFromWhere
  on_way y leaf c is =
      let prefix : List ℕ = take depth key in
      let at = step key depth read.is_key read.above in
      let h = from_here in
      let owned = owner_of H Below prefix h.0 h.1 h.6 y (in_page h.0 (lone_slots h.1) y (rw h.2 at c)) in
      let is_slot = All-contains IsSlot h.0 owned.owner h.3.are_slots owned.is_slot in
      let held = slot_held H Below prefix owned.owner _ owned.first refl is_slot (longer_held H _ _ prefix at.size
      (pages_held H _ _) owned.owner.byte) owned.are_of in
      let begin = held.begin y (key, leaf) owned.within is in
      let bytes = append_cancel_left prefix (owned.owner.byte ∷ []) _
      (sym (rw (length-append prefix (owned.owner.byte ∷ [])) at begin.1) ∙ at.begins) in
      let byte : owned.owner.byte ≡ get_or key depth 0 = cc in
      record {
        owner = owned.owner;
        first = owned.first;
        found = ap (λ p. slot_at p (get_or key depth 0)) (sym (same_page h.0 h.3 h.4)) ∙ ap (slot_at h.0) (sym byte)
            ∙ slot_found h.0 owned.owner h.3.ascend owned.is_slot;
        are_of = owned.are_of;
        within = owned.within;
      }

  -- nothing is held where there is no slot
  pub missing_slot : slot_at page (get_or key depth 0) ≡ None → IsHeldIn all key None
  missing_slot none = λ w leaf held.
      let at = on_way _ leaf held.there held.is_lone in
      let found = at.found in
      cc

  -- a lone key holds its leaf, and no other key
  pub alone_slot : (x : SlotAt) (l : List ℕ × List ℕ) (held : Option (ℕ × List ℕ))
      → slot_at page (get_or key depth 0) ≡ Some x → x.lone ≡ Some l
      → MatchOption held (l.0 ≢ key) (λ h. (l.0 ≡ key) × (h ≡ (x.version, l.1))) → IsHeldIn all key held
  unfolding AreFromWhere
  alone_slot x l None found lone apart = λ w leaf held.
      let at = on_way _ leaf held.there held.is_lone in
      let way = at.found in
      let same : at.owner ≡ x = cc in
      let alone = same_slot H Below _ at.owner x _ at.first same lone at.are_of in
      let within : Contains (at.owner ∷ lone_slots []) held.slot = rw alone.0 at at.within in
      let one : at.owner ≡ held.slot = only_one at.owner _ within in
      let is = held.is_lone in
      let key_is : l ≡ (key, leaf) = cc in
      apart (ap (λ p. p.0) key_is)
  alone_slot x l _ found lone same =
      let h = from_here in
      let there = slot_there h.0 _ x (ap (λ p. slot_at p (get_or key depth 0)) (same_page h.0 h.3 h.4) ∙ found) in
      rw same.1 record {
        slot = x;
        there = rw h.2 (Contains-append_left (with_lone h.0) (lone_slots h.1) x
            (in_filter (λ y. is_some y.lone) h.0 (ap is_some lone) there.0));
        is_version = refl;
        is_lone = lone ∙ ap (λ k. Some (k, l.1)) same.0;
      }

  -- where a page is below, it was visited
  record IsBelow (x : SlotAt) : Type 0 where
    pub first : List ChangedPageAt
    pub from : IsFrom H bytes_at tells_all key (depth + 1) x.version x.digest first
    pub among : (y : SlotAt) → Contains (lone_slots first) y → Contains (lone_slots all) y

  -- as a visit goes on from the slot of the key digest's byte
  goes_on : (x : SlotAt) (first : List ChangedPageAt) → x.byte ≡ get_or key depth 0
      → Below (take depth key ++ x.byte ∷ []) x.version x.digest first
      → IsFrom H bytes_at tells_all key (depth + 1) x.version x.digest first
  goes_on x first byte from =
      let at = step key depth read.is_key read.above in
      rw (byte, at.longer, at.fewer) at from

  next_from : (x : SlotAt) → slot_at page (get_or key depth 0) ≡ Some x → x.lone ≡ None → IsBelow x
  unfolding AreFromWhere
  next_from x found lone =
      let h = from_here in
      let there = slot_there h.0 _ x (rw (same_page h.0 h.3 h.4) found) in
      let part = of_member (IsLoneBelow H) Below _ h.0 h.1 h.6 x there.0 in
      record {
        first = part.these;
        from = goes_on x part.these there.1 (same_slot H Below _ x x None part.these refl lone part.of_slot);
        among = λ y c. rw h.2 (Contains-append_right (with_lone h.0) (lone_slots h.1) y
            (among_lone part.these h.1 part.within y c));
      }

  pub none_below : (x : SlotAt) → slot_at page (get_or key depth 0) ≡ Some x → x.lone ≡ None
      → ((digest : List ℕ) (first : List ChangedPageAt)
      → IsFrom H bytes_at tells_all key (depth + 1) x.version digest first → ⊥) → ⊥
  none_below x found lone none = let part = next_from x found lone in none x.digest part.first part.from

  -- and it holds what the page below holds
  pub slot_below : (x : SlotAt) (held : Option (ℕ × List ℕ)) → slot_at page (get_or key depth 0) ≡ Some x
      → x.lone ≡ None → ((digest : List ℕ) (first : List ChangedPageAt)
      → IsFrom H bytes_at tells_all key (depth + 1) x.version digest first → IsHeldIn first key held)
      → IsHeldIn all key held
  slot_below x None found lone below = λ w leaf held.
      let at = on_way _ leaf held.there held.is_lone in
      let way = at.found in
      let same : at.owner ≡ x = cc in
      let from = goes_on x at.first (slot_there page _ x found).1
      (same_slot H Below _ at.owner x None at.first same lone at.are_of) in
      let is = held.is_lone in
      elim (among at.owner _ _ at.within) [
        | inl one ↦ cc
        | inr later ↦ below x.digest at.first from w leaf
            record { slot = held.slot; there = later; is_version = held.is_version; is_lone = held.is_lone }
      ]
  slot_below x (Some v) found lone below =
      let part = next_from x found lone in
      let held = below x.digest part.first part.from in
      record {
        slot = held.slot;
        there = part.among _ held.there;
        is_version = held.is_version;
        is_lone = held.is_lone;
      }
