-- A root is that of the map in the pages below it.
use Rattle.std.proofs.Common.{◌≡◌, ℕ, zero, suc, ◌+◌, ◌-◌, ◌*◌, ◌<◌, ◌≤◌, Bool, false, List, [], ◌∷◌, ◌++◌, length, take, drop, Option, Some, None, refl, sym, ap, ◌∙◌, arith, inl, inr, ◌⊎◌, append_assoc, length-append, true}
use Rattle.std.proofs.lemmas.Bool.{cond-true, cond-false, false_from_ne_true}
use Rattle.std.proofs.lemmas.List.Elements.{All-head, All-tail, Contains-append_cases, Contains-append_left, Contains-append_right, filter_map-append}
use Rattle.std.proofs.lemmas.List.Folds.{find-append}
use Rattle.std.proofs.lemmas.Grind.{flat_map-append}
use Rattle.std.proofs.lemmas.List.{take-append-drop, append_cancel_left}
use Rattle.std.proofs.lemmas.Bool.Decides.{eqb_tells}
use Rattle.std.proofs.Math.Seq.{take-append_seam}
use Rattle.std.specs.List.{All, Contains, filter, filter_map, cons_option}
use Rattle.std.specs.Option.{option_or, option_map, is_some}
use Rattle.warg_crypto.specs.Digests.{IsDigest}
use Rattle.warg_map.specs.Bits.{bits_from, last_bits}
use Rattle.warg_map.specs.Last.{same_bits}
use Rattle.warg_map.specs.Sparse.{root_of_levels}
use Rattle.warg_map.proofs.ForCallers.{same_bits-true}
use Rattle.warg_pages.specs.Prefixes.{bits_of_bytes, byte_bits, begins}
use Rattle.warg_pages.specs.Slots.{SlotAt, IsSlot, IsPage, Ascends}
use Rattle.warg_pages.specs.Pages.{digest_at, slot_height, page_digest}
use Rattle.warg_pages.specs.ChangedPages.{ChangedPageAt}
use Rattle.warg_pages.specs.Visits.{held_by, IsLoneBelow, AreOfSlot, AreOfSlots, AreFromWhere, AreFrom, AreAllPages, lone_slots, lone_keys}
use Rattle.warg_pages.proofs.Members.{among, first_among, later_among, only_one, from_filter}
use Rattle.warg_pages.proofs.ByteNumbers.{number, number_below, byte_bits-number}
use Rattle.warg_pages.proofs.PageRoots.{root_over-below, root-same, root-nothing, begins-append}
use Rattle.warg_pages.proofs.BitParts.{key_at}
use Rattle.warg_pages.proofs.PrefixBytes.{bits-more}
use Rattle.warg_pages.proofs.OwnDescent.{bits_of_taken}
use Rattle.warg_pages.proofs.OneMore.{other_byte}

-- the slots with a lone key
abbrev pub with_lone : List SlotAt → List SlotAt
with_lone xs = filter (λ x. is_some x.lone) xs

-- what the lone keys of slots hold
abbrev pub held_among : List SlotAt → List Bool → Option (List ℕ)
held_among xs bits = held_by (filter_map (λ x. x.lone) xs) bits

either_map : (a b : Option (List ℕ × List ℕ)) → option_map (λ (l : List ℕ × List ℕ). l.1) (option_or a b)
    ≡ option_or (option_map (λ (l : List ℕ × List ℕ). l.1) a) (option_map (λ (l : List ℕ × List ℕ). l.1) b)
either_map a b = grind arith

held_among-append : (xs ys : List SlotAt) (bits : List Bool)
    → held_among (xs ++ ys) bits ≡ option_or (held_among xs bits) (held_among ys bits)
held_among-append xs ys bits =
    let found = λ (l : List ℕ × List ℕ). same_bits bits (last_bits l.0 256) in
    rw (filter_map-append _ xs ys)
    (ap (option_map (λ (l : List ℕ × List ℕ). l.1)) (find-append found _ _) ∙ either_map _ _)

both_none : (a b : Option (List ℕ)) → option_or a b ≡ None → (a ≡ None) × (b ≡ None)
both_none a b e = grind arith

or_none : (a : Option (List ℕ)) → option_or a None ≡ a
or_none None = refl
or_none (Some x) = refl

-- they hold the same
kept_lones : (xs : List SlotAt)
    → filter_map (λ x. x.lone) (with_lone xs) ≡ filter_map (λ x. x.lone) xs
kept_lones [] = refl
kept_lones (x ∷ xs) = let rest = kept_lones xs in grind arith

-- the lone keys of slots begin with bytes
abbrev pub BeginWith : List ℕ → List SlotAt → Type 0
BeginWith bytes xs = (x : SlotAt) (l : List ℕ × List ℕ) → Contains xs x → x.lone ≡ Some l
    → IsDigest l.0 × (take (length bytes) l.0 ≡ bytes)

-- or with a prefix and a byte from one on
abbrev pub BeginFrom : List ℕ → ℕ → List SlotAt → Type 0
BeginFrom prefix n xs = (x : SlotAt) (l : List ℕ × List ℕ) → Contains xs x → x.lone ≡ Some l
    → (t : ℕ) × (n ≤ t) × (t < 256) × IsDigest l.0 × (take (length prefix + 1) l.0 ≡ prefix ++ t ∷ [])

-- no two lone keys of slots have one digest
abbrev pub AreApart : List SlotAt → Type 0
AreApart xs = (x y : SlotAt) (k l m : List ℕ) → Contains xs x → Contains xs y → x.lone ≡ Some (k, l)
    → y.lone ≡ Some (k, m) → x ≡ y

-- what is known of the lone keys below a prefix
pub record IsHeldBelow (H : List ℕ → List ℕ) (bytes digest : List ℕ) (height : ℕ) (xs : List SlotAt) : Type 0 where
  pub begin : BeginWith bytes xs
  pub root : digest ≡ root_of_levels H height (λ r. held_among xs (bits_of_bytes bytes ++ r))
  pub apart : AreApart xs

-- and from a byte on
pub record AreHeldFrom (H : List ℕ → List ℕ) (prefix : List ℕ) (n : ℕ) (slots xs : List SlotAt) : Type 0 where
  pub begin : BeginFrom prefix n xs
  pub root : (s : ℕ) → s < 256 → digest_at H (slot_height (length prefix)) slots s
      ≡ root_of_levels H (slot_height (length prefix)) (λ r. held_among xs (bits_of_bytes (prefix ++ s ∷ []) ++ r))
  pub apart : AreApart xs

-- elsewhere nothing is held
abbrev Elsewhere : List ℕ → ℕ → SlotAt → Type 0
Elsewhere prefix s x = (l : List ℕ × List ℕ) → x.lone ≡ Some l
    → (t : ℕ) × (t ≡ s → ⊥) × (t < 256) × IsDigest l.0 × (take (length prefix + 1) l.0 ≡ prefix ++ t ∷ [])

other_bits : (prefix : List ℕ) (s t : ℕ) (k : List ℕ) (r : List Bool) → length prefix < 32 → s < 256 → t < 256
    → IsDigest k
    → (t ≡ s → ⊥) → take (length prefix + 1) k ≡ prefix ++ t ∷ []
    → same_bits (bits_of_bytes (prefix ++ s ∷ []) ++ r) (last_bits k 256) ≡ false
other_bits prefix s t k r short low lt is n e = false_from_ne_true _ (λ same.
    let p : List Bool = bits_of_bytes prefix in
    let rest : List Bool = last_bits k (256 - 8 * (length prefix + 1)) in
    let key : last_bits k 256 ≡ p ++ (byte_bits t ++ rest) = key_at k (8 * (length prefix + 1)) (omega arith) ∙ rw (
      ← bits_of_taken k (length prefix + 1) (omega arith),
      e,
      bits-more prefix t,
      append_assoc p (byte_bits t) rest,
    ) refl in
    let no = other_byte p rest t s lt low (λ is. n (sym is)) in
    let here : begins (p ++ byte_bits s) (last_bits k 256) ≡ true =
    rw (← same_bits-true (bits_of_bytes (prefix ++ s ∷ []) ++ r) (last_bits k 256) same, bits-more prefix s)
    (begins-append (p ++ byte_bits s) r) in
    let yes = rw key at here in
    cc)

none_held : (prefix : List ℕ) (s : ℕ) (xs : List SlotAt) (r : List Bool) → length prefix < 32 → s < 256
    → ((x : SlotAt) → Contains xs x → Elsewhere prefix s x)
    → held_among xs (bits_of_bytes (prefix ++ s ∷ []) ++ r) ≡ None
none_held prefix s [] r short low h = refl
none_held prefix s (x ∷ xs) r short low h =
    held_among-append (x ∷ []) xs bits
    ∙ ap (λ o. option_or o (held_among xs bits)) (here x.lone refl)
    ∙ none_held prefix s xs r short low (λ y c. h y (Contains-append_right (x ∷ []) xs y c))
  where
    bits : List Bool
    bits = bits_of_bytes (prefix ++ s ∷ []) ++ r

    here : (o : Option (List ℕ × List ℕ)) → x.lone ≡ o → held_by (cons_option o []) bits ≡ None
    here None e = refl
    here (Some l) e =
        let other = h x (first_among x xs) l e in
        rw (other_bits prefix s other.0 l.0 r short low other.2 other.3 other.1 other.4)

-- the lone key of a slot
lone_held : (H : List ℕ → List ℕ) (prefix : List ℕ) (x : SlotAt) (l : List ℕ × List ℕ) → x.lone ≡ Some l → IsSlot x
    → IsLoneBelow H prefix x l
    → IsHeldBelow H (prefix ++ x.byte ∷ []) x.digest (slot_height (length prefix)) (x ∷ [])
lone_held H prefix x l e is h = record {
  begin = λ y m at other. (let one = only_one x y at in
      let same : m ≡ l = cc in
      rw same ((is.lone l e).0, rw (length-append prefix (x.byte ∷ [])) h.begins));
  root = rw e h.digest;
  apart = λ y z k m n at other is_y is_z. sym (only_one x y at) ∙ only_one x z other;
}

-- the page below a slot
page_below : (H : List ℕ → List ℕ) (bytes : List ℕ) (height : ℕ) (x : SlotAt) (ys : List SlotAt) → x.lone ≡ None
    → IsHeldBelow H bytes x.digest height ys → IsHeldBelow H bytes x.digest height (x ∷ ys)
page_below H bytes height x ys e held = record {
  begin = λ y l at is. held.begin y l (later y l at is) is;
  root = rw e held.root;
  apart = λ y z k l m c d is_y is_z. held.apart y z k l m (later y (k, l) c is_y) (later z (k, m) d is_z) is_y is_z;
}
  where
    later : (y : SlotAt) (l : List ℕ × List ℕ) → Contains (x ∷ ys) y → y.lone ≡ Some l → Contains ys y
    later y l at is = elim (among x ys y at) [ inl same ↦ absurd (cc) | inr rest ↦ rest ]

-- one part of four
left_only : (a b c d : Option (List ℕ)) → option_or b d ≡ None
    → option_or a (option_or b (option_or c d)) ≡ option_or a c
left_only a b c d e = grind arith

right_only : (a b c d : Option (List ℕ)) → option_or a c ≡ None
    → option_or a (option_or b (option_or c d)) ≡ option_or b d
right_only a b c d e = grind arith

-- one slot before others
one_more_slot : (H : List ℕ → List ℕ) (prefix : List ℕ) (n : ℕ) (x : SlotAt) (xs ys zs : List SlotAt)
    → length prefix < 32
    → n ≤ x.byte → x.byte < 256
    → IsHeldBelow H (prefix ++ x.byte ∷ []) x.digest (slot_height (length prefix)) (x ∷ ys)
    → AreHeldFrom H prefix (x.byte + 1) xs (xs ++ zs)
    → AreHeldFrom H prefix n (x ∷ xs) (x ∷ xs ++ (ys ++ zs))
unfolding digest_at
one_more_slot H prefix n x xs ys zs short le lt slot others = record {
  begin = λ y l c e. elim (parts y c) [
    | inl here ↦ (let at = slot.begin y l here e in (x.byte, le, lt, at.0, rw size at at.1))
    | inr there ↦ (let at = others.begin y l there e in (at.0, omega (arith, at.1), at.2, at.3, at.4))
  ];
  root = λ s low. elim (eqb_tells x.byte s) [
    | inl same ↦ cond-true _ _ _ same.0 ∙ here ∙ ap (λ b. root_of_levels H (slot_height (length prefix))
        (λ r. held_among (x ∷ (xs ++ (ys ++ zs))) (bits_of_bytes (prefix ++ b ∷ []) ++ r))) same.1
    | inr apart ↦ cond-false _ _ _ apart.0 ∙ there s low apart.1
  ];
  apart = λ y z k l m c d is_y is_z. elim (parts y c) [
    | inl y_here ↦ elim (parts z d) [
      | inl z_here ↦ slot.apart y z k l m y_here z_here is_y is_z
      | inr z_there ↦ absurd (clash y z k l m y_here z_there is_y is_z)
    ]
    | inr y_there ↦ elim (parts z d) [
      | inl z_here ↦ absurd (clash z y k m l z_here y_there is_z is_y)
      | inr z_there ↦ others.apart y z k l m y_there z_there is_y is_z
    ]
  ];
}
  where
    size : length (prefix ++ x.byte ∷ []) ≡ length prefix + 1
    size = length-append prefix (x.byte ∷ [])

    parts : (y : SlotAt) → Contains (x ∷ (xs ++ (ys ++ zs))) y → Contains (x ∷ ys) y ⊎ Contains (xs ++ zs) y
    parts y h = elim (among x (xs ++ (ys ++ zs)) y h) [
      | inl same ↦ inl (rw same (first_among y ys))
      | inr rest ↦ elim (Contains-append_cases xs (ys ++ zs) y rest) [
        | inl before ↦ inr (Contains-append_left xs zs y before)
        | inr later ↦ elim (Contains-append_cases ys zs y later) [
          | inl below ↦ inl (later_among x ys y below)
          | inr behind ↦ inr (Contains-append_right xs zs y behind)
        ]
      ]
    ]

    clash : (y z : SlotAt) (k l m : List ℕ) → Contains (x ∷ ys) y → Contains (xs ++ zs) z → y.lone ≡ Some (k, l)
        → z.lone ≡ Some (k, m) → ⊥
    clash y z k l m c d is_y is_z =
        let one = slot.begin y (k, l) c is_y in
        let other = others.begin z (k, m) d is_z in
        let bytes = append_cancel_left prefix (x.byte ∷ []) (other.0 ∷ []) (sym (rw size at one.1) ∙ other.4) in
        let byte : x.byte ≡ other.0 = cc in
        let le = other.1 in
        omega arith

    held_all : (bits : List Bool) → held_among (x ∷ (xs ++ (ys ++ zs))) bits ≡ option_or (held_among (x ∷ []) bits)
        (option_or (held_among xs bits) (option_or (held_among ys bits) (held_among zs bits)))
    held_all bits = rw (
      held_among-append (x ∷ []) (xs ++ (ys ++ zs)) bits,
      held_among-append xs (ys ++ zs) bits,
      held_among-append ys zs bits,
    ) refl

    none_there : (r : List Bool) → held_among (xs ++ zs) (bits_of_bytes (prefix ++ x.byte ∷ []) ++ r) ≡ None
    none_there r = none_held prefix x.byte (xs ++ zs) r short lt (λ y c l e. let at = others.begin y l c e in
        (at.0, (λ same. let le = at.1 in omega arith), at.2, at.3, at.4))

    none_here : (s : ℕ) → s < 256 → (x.byte ≡ s → ⊥) → (r : List Bool)
        → held_among (x ∷ ys) (bits_of_bytes (prefix ++ s ∷ []) ++ r) ≡ None
    none_here s low apart r = none_held prefix s (x ∷ ys) r short low (λ y c l e. let at = slot.begin y l c e in
        (x.byte, apart, lt, at.0, rw size at at.1))

    here : x.digest ≡ root_of_levels H (slot_height (length prefix))
        (λ r. held_among (x ∷ (xs ++ (ys ++ zs))) (bits_of_bytes (prefix ++ x.byte ∷ []) ++ r))
    here = slot.root ∙ root-same H (slot_height (length prefix)) _ _ (λ r.
        let bits = bits_of_bytes (prefix ++ x.byte ∷ []) ++ r in
        held_among-append (x ∷ []) ys bits ∙ sym (held_all bits
        ∙ left_only (held_among (x ∷ []) bits) (held_among xs bits)
        (held_among ys bits) (held_among zs bits) (sym (held_among-append xs zs bits) ∙ none_there r)))

    there : (s : ℕ) → s < 256 → (x.byte ≡ s → ⊥) → digest_at H (slot_height (length prefix)) xs s
        ≡ root_of_levels H (slot_height (length prefix))
        (λ r. held_among (x ∷ (xs ++ (ys ++ zs))) (bits_of_bytes (prefix ++ s ∷ []) ++ r))
    there s low apart = others.root s low ∙ root-same H (slot_height (length prefix)) _ _ (λ r.
        let bits = bits_of_bytes (prefix ++ s ∷ []) ++ r in
        held_among-append xs zs bits ∙ sym (held_all bits ∙ right_only (held_among (x ∷ []) bits) (held_among xs bits)
        (held_among ys bits) (held_among zs bits) (sym (held_among-append (x ∷ []) ys bits) ∙ none_here s low apart r)))

-- the slots of a page
module _ (H : List ℕ → List ℕ) (AreFrom : List ℕ → ℕ → List ℕ → List ChangedPageAt → Type 0) (prefix : List ℕ) where
  pub slot_held : (x : SlotAt) (o : Option (List ℕ × List ℕ)) (pages : List ChangedPageAt) → x.lone ≡ o → IsSlot x
      → ((version : ℕ) (digest : List ℕ) (pages : List ChangedPageAt)
      → AreFrom (prefix ++ x.byte ∷ []) version digest pages
      → IsHeldBelow H (prefix ++ x.byte ∷ []) digest (slot_height (length prefix)) (lone_slots pages))
      → AreOfSlot (IsLoneBelow H) AreFrom prefix x o pages
      → IsHeldBelow H (prefix ++ x.byte ∷ []) x.digest (slot_height (length prefix)) (x ∷ lone_slots pages)
  slot_held x None pages e is below h = page_below H (prefix ++ x.byte ∷ []) (slot_height (length prefix)) x
      (lone_slots pages) e (below x.version x.digest pages h)
  slot_held x (Some l) pages e is below h = rw h.0 (lone_held H prefix x l e is h.1)

  slots_held : (n : ℕ) (slots : List SlotAt) (pages : List ChangedPageAt) → length prefix < 32 → Ascends slots
      → All IsSlot slots → All (λ x. n ≤ x.byte) slots
      → ((byte version : ℕ) (digest : List ℕ) (pages : List ChangedPageAt)
      → AreFrom (prefix ++ byte ∷ []) version digest pages
      → IsHeldBelow H (prefix ++ byte ∷ []) digest (slot_height (length prefix)) (lone_slots pages))
      → AreOfSlots (IsLoneBelow H) AreFrom prefix slots pages
      → AreHeldFrom H prefix n slots (slots ++ lone_slots pages)
  unfolding AreOfSlots digest_at
  slots_held n [] pages short ascend are low below h = rw h record {
    begin = λ y l c e. absurd (let lt = c.1 in omega arith);
    root = λ s within. sym (root-nothing H (slot_height (length prefix)));
    apart = λ y z k l m c d is_y is_z. absurd (let lt = c.1 in omega arith);
  }
  slots_held n (x ∷ xs) pages short ascend are low below h =
      let is : IsSlot x = All-head IsSlot x xs are in
      let at : n ≤ x.byte = low 0 x (omega arith) in
      let split : lone_slots pages ≡ lone_slots h.0 ++ lone_slots h.1 = rw h.2
      (flat_map-append (λ (p : ChangedPageAt). with_lone p.page) h.0 h.1) in
      rw split (one_more_slot H prefix n x xs _ _ short at is.is_byte
      (slot_held x x.lone h.0 refl is (below x.byte) h.3)
      (slots_held (x.byte + 1) xs h.1 short
      (λ i j d lt within. ascend (suc i) (suc j) d (omega arith) (omega arith)) (All-tail IsSlot x xs are)
      (λ i d within. let later = ascend 0 (suc i) d (omega arith) (omega arith) in omega arith) below h.4))

-- a slot of a page or below it
pub in_page : (slots ys : List SlotAt) (y : SlotAt) → Contains (with_lone slots ++ ys) y
    → Contains (slots ++ ys) y
in_page slots ys y h = elim (Contains-append_cases (with_lone slots) ys y h) [
  | inl own ↦ Contains-append_left slots ys y (from_filter (λ x. is_some x.lone) slots y own)
  | inr later ↦ Contains-append_right slots ys y later
]

-- a shorter prefix
begin_shorter : (prefix k : List ℕ) (t : ℕ) → take (length prefix + 1) k ≡ prefix ++ t ∷ []
    → take (length prefix) k ≡ prefix
begin_shorter prefix k t e = rw (sym (take-append-drop _ k)
    ∙ ap (λ z. z ++ drop (length prefix + 1) k) e ∙ append_assoc prefix _ _) (take-append_seam prefix _)

-- the page at a prefix
page_held : (H : List ℕ → List ℕ) (prefix : List ℕ) (version : ℕ) (slots : List SlotAt) (below : List ChangedPageAt)
    → length prefix < 32 → AreHeldFrom H prefix 0 slots (slots ++ lone_slots below)
    → IsHeldBelow H prefix (page_digest H (length prefix) slots) (256 - 8 * length prefix)
    (lone_slots (record { prefix = prefix; version = version; page = slots } ∷ below))
page_held H prefix version slots below short held = record {
  begin = λ y l c e. (let at = held.begin y l (in_page slots _ y c) e in
      (at.3, begin_shorter prefix l.0 at.0 at.4));
  root = rw (← height) (root_over-below H (slot_height (length prefix)) 8 0 _
      (λ r. held_among (with_lone slots ++ lone_slots below) (bits_of_bytes prefix ++ r)) at_byte);
  apart = λ y z k l m c d is_y is_z. held.apart y z k l m (in_page slots _ y c) (in_page slots _ z d) is_y is_z;
}
  where
    height : 8 + slot_height (length prefix) ≡ 256 - 8 * length prefix
    height = omega arith

    kept : (bits : List Bool) → held_among (slots ++ lone_slots below) bits
        ≡ held_among (with_lone slots ++ lone_slots below) bits
    kept bits = rw (
      filter_map-append (λ (x : SlotAt). x.lone) slots (lone_slots below),
      filter_map-append (λ (x : SlotAt). x.lone) (with_lone slots) (lone_slots below),
      kept_lones slots,
    ) refl

    bits_at : (q r : List Bool) → length q ≡ 8
        → bits_of_bytes (prefix ++ number q ∷ []) ++ r ≡ bits_of_bytes prefix ++ (q ++ r)
    bits_at q r m = rw (bits-more prefix (number q), byte_bits-number q m, append_assoc (bits_of_bytes prefix) q r) refl

    at_byte : (q : List Bool) → length q ≡ 8 → digest_at H (slot_height (length prefix)) slots (0 + number q)
        ≡ root_of_levels H (slot_height (length prefix))
        (λ r. held_among (with_lone slots ++ lone_slots below) (bits_of_bytes prefix ++ (q ++ r)))
    at_byte q m =
        let at : 0 + number q ≡ number q = omega arith in
        let low : number q < 256 = rw m at (number_below q) in
        rw at (held.root _ low ∙ root-same H _ _ _
        (λ r. ap (held_among (slots ++ lone_slots below)) (bits_at q r m) ∙ kept _))

-- the pages from a prefix on
abbrev pub AreHeldAfter : (List ℕ → List ℕ) → (List ℕ → ℕ → List SlotAt → Type 0) → ℕ → Type 0
AreHeldAfter H IsThere n = (prefix : List ℕ) (version : ℕ) (digest : List ℕ) (pages : List ChangedPageAt)
    → length prefix + n ≡ 32
    → AreFrom H IsThere n prefix version digest pages
    → IsHeldBelow H prefix digest (256 - 8 * length prefix) (lone_slots pages)

module _ (H : List ℕ → List ℕ) (IsThere : List ℕ → ℕ → List SlotAt → Type 0) where
  pub longer_held : (n : ℕ) (prefix : List ℕ) → length prefix + suc n ≡ 32 → AreHeldAfter H IsThere n →
      (byte version : ℕ) (digest : List ℕ) (pages : List ChangedPageAt)
      → AreFrom H IsThere n (prefix ++ byte ∷ []) version digest pages
      → IsHeldBelow H (prefix ++ byte ∷ []) digest (slot_height (length prefix)) (lone_slots pages)
  longer_held n prefix size held byte version digest pages from =
      let longer = length-append prefix (byte ∷ []) in
      let height : 256 - 8 * length (prefix ++ byte ∷ []) ≡ 248 - 8 * length prefix = omega arith in
      rw height at (held _ version digest pages (omega arith) from)

  pub pages_held : (n : ℕ) → AreHeldAfter H IsThere n
  unfolding AreFromWhere
  pages_held zero = λ prefix version digest pages size h. absurd h
  pages_held (suc n) = λ prefix version digest pages size h.
      let page : IsPage h.0 = h.3 in
      let short : length prefix < 32 = omega arith in
      rw (h.2, ← h.5) (page_held H prefix version h.0 h.1 short
      (slots_held H (AreFrom H IsThere n) prefix 0 h.0 h.1 short
      page.ascend page.are_slots (λ i d within. omega arith)
      (longer_held n prefix size (pages_held n)) h.6))

  -- the law
  pub root_of_pages : (root : List ℕ) (version : ℕ) (all : List ChangedPageAt) → AreAllPages H IsThere root version all
      → root ≡ root_of_levels H 256 (held_by (lone_keys all))
  unfolding bits_from
  root_of_pages root zero all h = h.1 ∙ sym (root-nothing H 256)
      ∙ ap (λ p. root_of_levels H 256 (held_by (lone_keys p))) (sym h.0)
  root_of_pages root (suc last) all h = (pages_held 32 [] _ root all refl h).root

  -- the lone keys of pages are digests
  pub lone_digests : (root : List ℕ) (version : ℕ) (all : List ChangedPageAt) → AreAllPages H IsThere root version all
      → (x : SlotAt) (l : List ℕ × List ℕ) → Contains (lone_slots all) x → x.lone ≡ Some l → IsDigest l.0
  lone_digests root zero all h = λ x l c e. absurd (let size = ap (λ p. length (lone_slots p)) h.0 in
      omega arith)
  lone_digests root (suc last) all h = λ x l c e.
      ((pages_held 32 [] _ root all refl h).begin x l c e).0
