-- Slots in the order of their bytes, and those that a function gives at the numbers from one on.
use Rattle.std.proofs.Common.{◌≡◌, ℕ, zero, suc, ◌+◌, ◌-◌, ◌<◌, ◌≤◌, eqb, List, [], ◌∷◌, length, get_or, Option, Some, None, refl, sym, ap, ◌∙◌, arith, inl, inr, eq-eqb}
use Rattle.std.proofs.lemmas.Bool.{cond-true, cond-false, ne_eqb, eqb-true}
use Rattle.std.specs.List.{Contains, filter_map, cons_option}
use Rattle.warg_crypto.specs.EmptyTrees.{empty_root}
use Rattle.warg_pages.specs.Slots.{SlotAt, Ascends, numbers}
use Rattle.warg_pages.specs.Pages.{digest_at, slot_at, slot_height}
use Rattle.warg_pages.proofs.Members.{among, in_filter_map, from_filter_map, AllPairs-cons, find_some}
use Rattle.warg_pages.specs.Private.Updates.{slot_digest}

-- the slot of a byte
pub slot_there : (xs : List SlotAt) (s : ℕ) (x : SlotAt) → slot_at xs s ≡ Some x → Contains xs x × (x.byte ≡ s)
slot_there xs s x e = let found = find_some (λ y. eqb y.byte s) xs e in (found.0, eqb-true x.byte s found.1)

pub slot_found : (xs : List SlotAt) (x : SlotAt) → Ascends xs → Contains xs x → slot_at xs x.byte ≡ Some x
slot_found [] x ascend h = absurd (omega arith)
slot_found (y ∷ xs) x ascend h = elim (among y xs x h) [
  | inl same ↦ rw same (cond-true _ _ _ (eq-eqb x.byte x.byte refl))
  | inr later ↦
      let below = ascend 0 (suc later.0) x (omega arith) (omega arith) in
      let same : (get_or xs later.0 x).byte ≡ x.byte = ap (λ (z : SlotAt). z.byte) later.2 in
      cond-false _ _ _ (ne_eqb y.byte x.byte (λ e. omega arith))
      ∙ slot_found xs x (λ i j d lt within. ascend (suc i) (suc j) d (omega arith) (omega arith)) later
]

-- its digest
abbrev pub digest_of : (List ℕ → List ℕ) → ℕ → Option SlotAt → List ℕ
digest_of H height None = empty_root H height
digest_of H height (Some x) = x.digest

pub digest_at-slot : (H : List ℕ → List ℕ) (height : ℕ) (xs : List SlotAt) (s : ℕ) → digest_at H height xs s
    ≡ digest_of H height (slot_at xs s)
unfolding digest_at
digest_at-slot H height [] s = refl
digest_at-slot H height (x ∷ xs) s = rw (digest_at-slot H height xs s) (grind arith)

pub digest_of-slot : (H : List ℕ → List ℕ) (depth : ℕ) (o : Option SlotAt)
    → slot_digest H depth o ≡ digest_of H (slot_height depth) o
digest_of-slot H depth None = refl
digest_of-slot H depth (Some x) = refl

-- the numbers from one on
numbered : (first n i d : ℕ) → i < n → get_or (numbers first n) i d ≡ first + i
unfolding numbers
numbered first zero i d lt = absurd (omega arith)
numbered first (suc n) zero d lt = omega arith
numbered first (suc n) (suc i) d lt = numbered (first + 1) n i d (omega arith) ∙ omega arith

length-numbers : (first n : ℕ) → length (numbers first n) ≡ n
unfolding numbers
length-numbers first zero = refl
length-numbers first (suc n) = ap suc (length-numbers (first + 1) n)

abbrev pub HasByte : ℕ → Option SlotAt → Type 0
HasByte s None = Unit {0}
HasByte s (Some x) = x.byte ≡ s

-- a slot is among those that a function gives, where it gives it at its byte
module _ (f : ℕ → Option SlotAt) (byte : (t : ℕ) → HasByte t (f t)) where
  pub byte_is : {t : ℕ} {x : SlotAt} → f t ≡ Some x → x.byte ≡ t
  byte_is {t} is = rw is at (byte t)

  pub in_slots : (first n t : ℕ) {x : SlotAt} → first ≤ t → t < first + n → f t ≡ Some x
      → Contains (filter_map f (numbers first n)) x
  in_slots first n t le lt is = in_filter_map f (numbers first n) {x = t} (
    t - first,
    rw (length-numbers first n) (omega arith),
    numbered first n (t - first) t (omega arith) ∙ omega arith,
  ) is

  -- a slot among those from a number on
  pub record IsNumbered (first n : ℕ) (x : SlotAt) : Type 0 where
    pub from : first ≤ x.byte
    pub to : x.byte < first + n
    pub is_slot : f x.byte ≡ Some x

  pub from_slots : (first n : ℕ) (x : SlotAt) → Contains (filter_map f (numbers first n)) x → IsNumbered first n x
  from_slots first n x c =
      let at = from_filter_map f (numbers first n) x c in
      let is = byte_is at.2 in
      let lt : at.1.0 < n = rw (length-numbers first n) at at.1.1 in
      let place = numbered first n at.1.0 at.0 lt in
      let number = at.1.2 in
      record { from = omega arith; to = omega arith; is_slot = ap f is ∙ at.2 }

  pub slots_ascend : (first n : ℕ) → Ascends (filter_map f (numbers first n))
  unfolding numbers
  slots_ascend first zero = λ i j d lt within. absurd (omega arith)
  slots_ascend first (suc n) = cons (f first) (byte first) (slots_ascend (first + 1) n)
    where
      cons : (o : Option SlotAt) → HasByte first o → Ascends (filter_map f (numbers (first + 1) n))
          → Ascends (cons_option o (filter_map f (numbers (first + 1) n)))
      cons None h up = up
      cons (Some x) h up = AllPairs-cons (λ (y z : SlotAt). y.byte < z.byte) x (filter_map f (numbers (first + 1) n))
          (λ y c. let low = (from_slots (first + 1) n y c).from in omega arith) up

  -- the slot of a number is what the function gives there
  pub slot_at-number : (first n s : ℕ) → first ≤ s → s < first + n → slot_at (filter_map f (numbers first n)) s ≡ f s
  slot_at-number first n s le lt = by_slot _ _ refl refl
    where
      by_slot : (o r : Option SlotAt) → slot_at (filter_map f (numbers first n)) s ≡ o → f s ≡ r → o ≡ r
      by_slot o (Some x) there is =
          sym there ∙ ap (slot_at _) (sym (byte_is is))
          ∙ slot_found _ x (slots_ascend first n) (in_slots first n s le lt is)
      by_slot None None there is = refl
      by_slot (Some x) None there is =
          let found = slot_there _ s x there in
          let at : f s ≡ Some x = ap f (sym found.1) ∙ (from_slots first n x found.0).is_slot in
          absurd cc
