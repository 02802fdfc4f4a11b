-- The map in pages is the one that insertions make, where each insertion is in them and they hold nothing else.
use Rattle.std.proofs.Common.{◌≡◌, ◌≢◌, ℕ, ◌+◌, ◌<◌, Bool, true, List, [], ◌∷◌, ◌++◌, length, Option, Some, None, refl, sym, ap, ◌∙◌, arith, inl, inr, append_assoc, length-append}
use Rattle.std.proofs.lemmas.Bool.{false_from_ne_true}
use Rattle.std.proofs.lemmas.Bool.Decides.{eqb_tells}
use Rattle.std.specs.Prelude.{find}
use Rattle.std.specs.List.{AllPairs, Contains, filter_map}
use Rattle.std.specs.Option.{option_map}
use Rattle.std.specs.FinMap.{get}
use Rattle.warg_crypto.specs.Digests.{IsDigest}
use Rattle.warg_crypto.specs.Tree.{leaf_digest}
use Rattle.warg_map.specs.Bits.{last_bits, key_bits}
use Rattle.warg_map.specs.Last.{last_with, same_bits, last_under}
use Rattle.warg_map.specs.Sparse.{map_of}
use Rattle.warg_map.proofs.ForCallers.{same_bits-true, same_digest, last_held}
use Rattle.warg_pages.specs.Slots.{SlotAt}
use Rattle.warg_pages.specs.ChangedPages.{ChangedPageAt}
use Rattle.warg_pages.specs.Visits.{held_by, lone_slots, lone_keys}
use Rattle.warg_pages.specs.Audits.{IsLoneAmong, IsInPages, AreInPages, count_last}
use Rattle.warg_pages.proofs.Members.{among, around, AllPairs-cons, all_among, find_some, find_none, in_filter_map, from_filter_map}
use Rattle.warg_pages.proofs.LastPassing.{none_is}
use Rattle.warg_pages.proofs.VisitedRoots.{AreApart}

-- slots by what is found
abbrev FoundIn : List SlotAt → (List ℕ × List ℕ → Bool) → List ℕ × List ℕ → Type 0
FoundIn xs test l = (x : SlotAt) × Contains xs x × (x.lone ≡ Some l) × (test l ≡ true)

found_slot : (xs : List SlotAt) (test : List ℕ × List ℕ → Bool) (l : List ℕ × List ℕ)
    → find test (filter_map (λ x. x.lone) xs) ≡ Some l → FoundIn xs test l
found_slot xs test l e =
    let found = find_some test (filter_map (λ x. x.lone) xs) e in
    let at = from_filter_map (λ (x : SlotAt). x.lone) xs l found.0 in
    (at.0, at.1, at.2, found.1)

none_found : (xs : List SlotAt) (test : List ℕ × List ℕ → Bool) → find test (filter_map (λ x. x.lone) xs) ≡ None
    → (x : SlotAt) (l : List ℕ × List ℕ) → Contains xs x → x.lone ≡ Some l → test l ≡ true → ⊥
none_found xs test e x l c is pass =
    let no = find_none test _ e (in_filter_map (λ (x : SlotAt). x.lone) xs c is) in
    cc

-- the last element that passes
last_is : {X : Type 0} (p : X → Bool) (before : List X) (e : X) (after : List X) → p e ≡ true → last_with p after ≡ None
    → last_with p (before ++ e ∷ after) ≡ Some e
unfolding last_with
last_is p [] e after pass none = rw (none, pass) refl
last_is p (b ∷ before) e after pass none = rw (last_is p before e after pass none) refl

-- an insertion among others is in pages
record IsEntryIn (H : List ℕ → List ℕ) (all : List ChangedPageAt) (least : ℕ) (e : List ℕ × List ℕ) : Type 0 where
  pub version : ℕ
  pub leaf : List ℕ
  pub held : IsLoneAmong all (H e.0) version leaf
  pub later : least < version

entry_in : (H : List ℕ → List ℕ) (all : List ChangedPageAt) (first : ℕ) (before after : List (List ℕ × List ℕ))
    (e : List ℕ × List ℕ) (vs : List ℕ) → AreInPages H all first (before ++ e ∷ after) vs
    → IsEntryIn H all (first + length before) e
unfolding AreInPages
entry_in H all first [] after e [] h = absurd h
entry_in H all first [] after e (v ∷ vs) h =
    let is = h.0 in
    let later = is.later in
    record { version = v; leaf = is.leaf; held = is.held; later = omega arith }
entry_in H all first (b ∷ before) after e [] h = absurd h
entry_in H all first (b ∷ before) after e (v ∷ vs) h =
    let rest = entry_in H all (first + 1) before after e vs h.1 in
    let later = rest.later in
    record { version = rest.version; leaf = rest.leaf; held = rest.held; later = omega arith }

-- a slot is that of the last insertion of its key
record IsLast (H : List ℕ → List ℕ) (first : ℕ) (es : List (List ℕ × List ℕ)) (x : SlotAt) : Type 0 where
  pub before : List (List ℕ × List ℕ)
  pub e : List ℕ × List ℕ
  pub after : List (List ℕ × List ℕ)
  pub is_there : es ≡ before ++ e ∷ after
  pub is_version : x.version ≡ first + length before + 1
  pub is_lone : x.lone ≡ Some (H e.0, leaf_digest H e.1)

record AreLast (H : List ℕ → List ℕ) (all : List ChangedPageAt) (first : ℕ) (es : List (List ℕ × List ℕ))
    (count : ℕ) : Type 0 where
  pub slots : List SlotAt
  pub as_many : length slots ≡ count
  pub distinct : AllPairs (λ x y. x ≢ y) slots
  pub within : (x : SlotAt) → Contains slots x → Contains (lone_slots all) x
  pub are_last : (x : SlotAt) → Contains slots x → IsLast H first es x

later_last : (H : List ℕ → List ℕ) (first : ℕ) (e : List ℕ × List ℕ) (es : List (List ℕ × List ℕ)) (x : SlotAt)
    → IsLast H (first + 1) es x → IsLast H first (e ∷ es) x
later_last H first e es x l =
    record {
      before = e ∷ l.before;
      e = l.e;
      after = l.after;
      is_there = ap (λ z. e ∷ z) l.is_there;
      is_version = omega arith;
      is_lone = l.is_lone;
    }

later_slots : (H : List ℕ → List ℕ) (all : List ChangedPageAt) (first : ℕ) (e : List ℕ × List ℕ)
    (es : List (List ℕ × List ℕ)) (count : ℕ) → AreLast H all (first + 1) es count
    → AreLast H all first (e ∷ es) (0 + count)
later_slots H all first e es count rest = record {
  slots = rest.slots;
  as_many = omega arith;
  distinct = rest.distinct;
  within = rest.within;
  are_last = λ x c. later_last H first e es x (rest.are_last x c);
}

one_more : (H : List ℕ → List ℕ) (all : List ChangedPageAt) (first : ℕ) (e : List ℕ × List ℕ)
    (es : List (List ℕ × List ℕ)) (v count : ℕ) → v ≡ first + 1 → IsInPages H all first e v
    → AreLast H all (first + 1) es count → AreLast H all first (e ∷ es) (1 + count)
one_more H all first e es v count next is rest = record {
  slots = x ∷ rest.slots;
  as_many = omega arith;
  distinct = AllPairs-cons (λ x y. x ≢ y) x rest.slots differ rest.distinct;
  within = λ y c. elim (among x rest.slots y c) [
    | inl same ↦ rw (← same) is.held.there
    | inr later ↦ rest.within y later
  ];
  are_last = λ y c. elim (among x rest.slots y c) [
    | inl same ↦ rw (← same) this
    | inr later ↦ later_last H first e es y (rest.are_last y later)
  ];
}
  where
    x : SlotAt
    x = is.held.slot

    at : x.version ≡ v
    at = is.held.is_version

    differ : (y : SlotAt) → Contains rest.slots y → x ≢ y
    differ y c = λ same.
        let later = (rest.are_last y c).is_version in
        let versions : x.version ≡ y.version = ap (λ (z : SlotAt). z.version) same in
        let from = at in
        omega arith

    this : IsLast H first (e ∷ es) x
    this = record {
      before = [];
      e = e;
      after = es;
      is_there = refl;
      is_version = omega arith;
      is_lone = is.held.is_lone ∙ ap (λ leaf. Some (H e.0, leaf)) (is.last next);
    }

last_slots : (H : List ℕ → List ℕ) (all : List ChangedPageAt) (first : ℕ) (es : List (List ℕ × List ℕ)) (vs : List ℕ)
    → AreInPages H all first es vs → AreLast H all first es (count_last first vs)
unfolding AreInPages
last_slots H all first [] [] h = record {
  slots = [];
  as_many = refl;
  distinct = λ i j d lt within. absurd (omega arith);
  within = λ x c. absurd (let lt = c.1 in omega arith);
  are_last = λ x c. absurd (omega arith);
}
last_slots H all first [] (v ∷ vs) h = absurd h
last_slots H all first (e ∷ es) [] h = absurd h
last_slots H all first (e ∷ es) (v ∷ vs) h =
    let rest = last_slots H all (first + 1) es vs h.1 in
    elim (eqb_tells v (first + 1)) [
      | inl next ↦ rw next.0 (one_more H all first e es v _ next.1 h.0 rest)
      | inr other ↦ rw other.0 (later_slots H all first e es _ rest)
    ]

-- the law
pub held_is : (H : List ℕ → List ℕ) (es : List (List ℕ × List ℕ)) (all : List ChangedPageAt) (vs : List ℕ)
    → ((x : SlotAt) (l : List ℕ × List ℕ) → Contains (lone_slots all) x → x.lone ≡ Some l → IsDigest l.0)
    → AreApart (lone_slots all) → AreInPages H all 0 es vs → count_last 0 vs ≡ length (lone_slots all)
    → (bits : List Bool) → held_by (lone_keys all) bits ≡ get (map_of H es) bits
held_is H es all vs digests apart are same bits = either _ refl
  where
    lone_has : List ℕ × List ℕ → Bool
    lone_has l = same_bits bits (last_bits l.0 256)

    has : List ℕ × List ℕ → Bool
    has e = same_bits bits (key_bits H e.0)

    lasts : AreLast H all 0 es (count_last 0 vs)
    lasts = last_slots H all 0 es vs are

    in_map : (o : Option (List ℕ × List ℕ)) → last_under H bits es ≡ o
        → option_map (λ (e : List ℕ × List ℕ). leaf_digest H e.1) o ≡ get (map_of H es) bits
    in_map o e = sym (last_held H bits es ∙ ap (option_map (λ (e : List ℕ × List ℕ). leaf_digest H e.1)) e)

    no_other : (x : SlotAt) → Contains (lone_slots all) x → (last : IsLast H 0 es x) → has last.e ≡ true
        → (f : List ℕ × List ℕ) → Contains last.after f → has f ≡ true → ⊥
    no_other x there last passes f c pass =
        let split = around last.after f c in
        let whole : es ≡ (last.before ++ last.e ∷ split.0) ++ f ∷ split.1 = last.is_there
        ∙ ap (λ after. last.before ++ last.e ∷ after) split.2 ∙ sym (append_assoc last.before _ _) in
        let in_pages = entry_in H all 0 (last.before ++ last.e ∷ split.0) split.1 f vs (rw whole at are) in
        let keys : H last.e.0 ≡ H f.0 = same_digest H last.e.0 f.0
        (digests x (H last.e.0, leaf_digest H last.e.1) there last.is_lone)
        (digests in_pages.held.slot (H f.0, in_pages.leaf) in_pages.held.there in_pages.held.is_lone)
        (sym (same_bits-true bits _ passes) ∙ same_bits-true bits _ pass) in
        let one : x ≡ in_pages.held.slot = apart x _ _ _ in_pages.leaf there in_pages.held.there last.is_lone
        (in_pages.held.is_lone ∙ ap (λ h. Some (h, in_pages.leaf)) (sym keys)) in
        let versions : x.version ≡ in_pages.held.slot.version = ap (λ (z : SlotAt). z.version) one in
        let is_version = in_pages.held.is_version in
        let later = in_pages.later in
        let first = last.is_version in
        let size = length-append last.before (last.e ∷ split.0) in
        omega arith

    either : (o : Option (List ℕ × List ℕ)) → find lone_has (lone_keys all) ≡ o
        → option_map (λ (l : List ℕ × List ℕ). l.1) o ≡ get (map_of H es) bits
    either None e = in_map None (none_is has es (λ f c. false_from_ne_true _ (λ pass.
        let split = around es f c in
        let in_pages = entry_in H all 0 split.0 split.1 f vs (rw split.2 at are) in
        none_found _ lone_has e _ (H f.0, in_pages.leaf) in_pages.held.there in_pages.held.is_lone pass)))
    either (Some l) e =
        let found = found_slot (lone_slots all) lone_has l e in
        let many = lasts.as_many in
        let last = lasts.are_last found.0 (all_among lasts.slots _ lasts.distinct lasts.within (omega arith) found.0
        found.1) in
        let is : l ≡ (H last.e.0, leaf_digest H last.e.1) = cc (found.2, last.is_lone) in
        rw is (in_map _ (ap (last_under H bits) last.is_there
        ∙ last_is has last.before last.e last.after (ap lone_has (sym is) ∙ found.3)
        (none_is has last.after (λ f c. false_from_ne_true _
        (no_other found.0 found.1 last (ap lone_has (sym is) ∙ found.3) f c)))))
