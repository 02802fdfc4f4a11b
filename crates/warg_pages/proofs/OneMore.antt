-- One more insertion.
use Rattle.std.proofs.Common.{◌≡◌, ℕ, zero, suc, ◌+◌, ◌-◌, ◌<◌, ◌≤◌, Bool, true, false, List, [], ◌∷◌, ◌++◌, length, Option, Some, None, refl, sym, ap, ◌∙◌, arith, inl, inr, length-append}
use Rattle.std.proofs.lemmas.Bool.{cases_lt, false_from_ne_true}
use Rattle.std.proofs.lemmas.Bool.Decides.{nat_tests}
use Rattle.std.specs.List.{filter_map, cons_option}
use Rattle.warg_map.specs.Bits.{key_bits}
use Rattle.warg_map.specs.Last.{last_with}
use Rattle.warg_pages.specs.Prefixes.{byte_bits, begins, is_below, last_place, version}
use Rattle.warg_pages.specs.Slots.{SlotAt, slot_of, numbers, page_of}
use Rattle.warg_pages.specs.PageInsertions.{with_slot, last_slot}
use Rattle.warg_pages.proofs.ByteNumbers.{number, number-byte_bits}
use Rattle.warg_pages.proofs.LastPassing.{last_with-append, last_place-append}
use Rattle.warg_pages.proofs.MoreInsertions.{quiet_slot}
use Rattle.warg_pages.proofs.NumberedSlots.{HasByte}
use Rattle.warg_pages.proofs.PageRoots.{slot_byte, begins-append}
use Rattle.warg_pages.proofs.KeyPrefixes.{length-bits_from}

-- one insertion elsewhere
pub elsewhere : (H : List ℕ → List ℕ) (p : List Bool) (e : List ℕ × List ℕ) → is_below H p e ≡ false
    → last_with (is_below H p) (e ∷ []) ≡ None
unfolding last_with
elsewhere H p e off = rw off refl

slot_of-same : (H : List ℕ → List ℕ) (es : List (List ℕ × List ℕ)) (e : List ℕ × List ℕ) (p : List Bool) (s : ℕ)
    → is_below H (p ++ byte_bits s) e ≡ true → slot_of H (es ++ e ∷ []) p s
    ≡ Some (last_slot H (es ++ e ∷ []) (p ++ byte_bits s) s e)
unfolding last_with last_place
slot_of-same H es e p s t =
    let here : is_below H (p ++ byte_bits s) e ≡ true = t in
    let v : version H (es ++ e ∷ []) (p ++ byte_bits s) ≡ length (es ++ e ∷ []) =
    rw (last_place-append _ es (e ∷ []), here, length-append es (e ∷ [])) refl in
    rw (last_with-append _ es (e ∷ []), here, v) refl

-- of a page's bytes one begins with a key's bits
pub begins-front : (p a b : List Bool) → begins (p ++ a) (p ++ b) ≡ begins a b
begins-front [] a b = refl
begins-front (c ∷ p) a b = rw (begins-front p a b) (grind arith)

pub begins-same : (a b c : List Bool) → length a ≡ length b → begins a (b ++ c) ≡ true → a ≡ b
begins-same [] [] c n e = refl
begins-same [] _ c n e = absurd (omega arith)
begins-same _ [] c n e = absurd (omega arith)
begins-same (x ∷ a) (y ∷ b) c n e = let rest = begins-same a b c (omega arith) in grind arith

pub own_byte : (p rest : List Bool) (s : ℕ) → begins (p ++ byte_bits s) (p ++ (byte_bits s ++ rest)) ≡ true
own_byte p rest s = begins-front p _ _ ∙ begins-append (byte_bits s) rest

pub other_byte : (p rest : List Bool) (s t : ℕ) → s < 256 → t < 256 → ¬ (t ≡ s)
    → begins (p ++ byte_bits t) (p ++ (byte_bits s ++ rest)) ≡ false
other_byte p rest s t low lt n = begins-front p _ _ ∙ false_from_ne_true _ (λ e. n (same e))
  where
    same : begins (byte_bits t) (byte_bits s ++ rest) ≡ true → t ≡ s
    same e = sym (number-byte_bits t lt) ∙ ap number (begins-same _ _ rest (length-bits_from _ 0 8
        ∙ sym (length-bits_from _ 0 8)) e) ∙ number-byte_bits s low

-- slots of functions that differ at one number
abbrev pub Alike : (ℕ → Option SlotAt) → (ℕ → Option SlotAt) → ℕ → Type 0
Alike f g s = (t : ℕ) → t < 256 → ¬ (t ≡ s) → g t ≡ f t

behind : (f g : ℕ → Option SlotAt) (s first n : ℕ) → Alike f g s → s < first → first + n ≤ 256
    → filter_map g (numbers first n) ≡ filter_map f (numbers first n)
unfolding numbers
behind f g s first zero h lt le = refl
behind f g s first (suc n) h lt le =
    rw (h first (omega arith) (λ e. omega arith), behind f g s (first + 1) n h (omega arith) (omega arith)) refl

front_of : (x : SlotAt) (first : ℕ) (o : Option SlotAt) (ys : List SlotAt) → HasByte first o → x.byte < first
    → with_slot x ys ≡ x ∷ ys → with_slot x (cons_option o ys) ≡ x ∷ cons_option o ys
unfolding with_slot
front_of x first o ys h lt front = grind (arith, nat_tests)

in_front : (f : ℕ → Option SlotAt) (x : SlotAt) (first n : ℕ) → ((t : ℕ) → HasByte t (f t)) → x.byte < first
    → with_slot x (filter_map f (numbers first n)) ≡ x ∷ filter_map f (numbers first n)
unfolding numbers with_slot
in_front f x first zero i lt = refl
in_front f x first (suc n) i lt = front_of x first (f first) _ (i first) lt (in_front f x (first + 1) n i (omega arith))

module _ (x : SlotAt) (first : ℕ) (o : Option SlotAt) (ys : List SlotAt) (h : HasByte first o) where
  replaced : x.byte ≡ first → with_slot x ys ≡ x ∷ ys → x ∷ ys ≡ with_slot x (cons_option o ys)
  unfolding with_slot
  replaced e front = grind (arith, nat_tests)

  passed : first < x.byte → cons_option o (with_slot x ys) ≡ with_slot x (cons_option o ys)
  unfolding with_slot
  passed lt = grind (arith, nat_tests)

pub with_one : (f g : ℕ → Option SlotAt) (x : SlotAt) (first n : ℕ) → ((t : ℕ) → HasByte t (f t)) → Alike f g x.byte
    → g x.byte ≡ Some x → first ≤ x.byte → x.byte < first + n → first + n ≤ 256
    → filter_map g (numbers first n) ≡ with_slot x (filter_map f (numbers first n))
unfolding numbers
with_one f g x first zero i h at ge lt le = absurd (omega arith)
with_one f g x first (suc n) i h at ge lt le = elim (cases_lt first x.byte) [
  | inl low ↦ rw (
    h first (omega arith) (λ e. omega arith),
    with_one f g x (first + 1) n i h at (omega arith)
        (omega arith) (omega arith),
  ) (passed x first (f first) _ (i first) low)
  | inr high ↦ (
      let same : first ≡ x.byte = omega arith in
      let new : g first ≡ Some x = rw same at in
      rw (new, behind f g x.byte (first + 1) n h (omega arith) (omega arith))
      (replaced x first (f first) _ (i first) (sym same) (in_front f x (first + 1) n i (omega arith))))
]

-- the page on the way of the new key
pub one_more : (H : List ℕ → List ℕ) (es : List (List ℕ × List ℕ)) (e : List ℕ × List ℕ) (p rest : List Bool) (s : ℕ)
    → s < 256 → key_bits H e.0 ≡ p ++ (byte_bits s ++ rest)
    → page_of H (es ++ e ∷ []) p ≡ with_slot (last_slot H (es ++ e ∷ []) (p ++ byte_bits s) s e) (page_of H es p)
unfolding page_of
one_more H es e p rest s lt path =
    with_one _ _ _ 0 256 (λ t. slot_byte H es _ t _)
    (λ t low n. quiet_slot H es _ p t (elsewhere H _ e (rw path (other_byte p rest s t lt low n))))
    (slot_of-same H es e p s (rw path (own_byte p rest s))) (omega arith) (omega arith) (omega arith)
