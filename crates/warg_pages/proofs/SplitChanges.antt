-- Changes split by a byte of their key digests.
use Rattle.std.proofs.Common.{◌≡◌, ◌≢◌, ℕ, ◌+◌, ◌<◌, false, List, [], ◌∷◌, ◌++◌, length, get_or, set, take}
use Rattle.std.proofs.Common.{sym, ◌∙◌, arith, inl, inr}
use Rattle.std.proofs.lemmas.Bool.{cases_eq, cases_lt, eqb-true, false_from_ne_true}
use Rattle.std.proofs.lemmas.Bool.Decides.{nat_tests}
use Rattle.std.proofs.lemmas.Grind.{get_or-set_at}
use Rattle.std.proofs.lemmas.List.{get_or-set_other, get_or_append_left, get_or_push, append-nil}
use Rattle.std.proofs.lemmas.List.Elements.{filter_more}
use Rattle.std.specs.List.{filter}
use Rattle.warg_pages.specs.Private.Updates.{ChangeAt, goes_to}

-- one change more, at the byte that its key digest has
module _ (depth : ℕ) (changes : List ChangeAt) (place : ℕ) (x : ChangeAt) (less : place < length changes)
    (is : x ≡ get_or changes place x) where
  own_byte : ℕ
  own_byte = get_or x.key depth 0

  there : ℕ → ℕ → List ChangeAt
  there byte n = filter (goes_to depth byte) (take n changes)

  more_at : (byte : ℕ) → own_byte ≡ byte → there byte (place + 1) ≡ there byte place ++ x ∷ []
  unfolding own_byte there
  more_at byte same = grind (arith, nat_tests, filter_more (goes_to depth byte) changes place x less)

  none_at : (byte : ℕ) → own_byte ≢ byte → there byte (place + 1) ≡ there byte place
  unfolding own_byte there
  none_at byte other =
      let no : goes_to depth byte x ≡ false =
      false_from_ne_true _ (λ t. other (eqb-true (get_or x.key depth 0) byte t)) in
      rw (filter_more (goes_to depth byte) changes place x less, ← is, no)
      (append-nil (filter (goes_to depth byte) (take place changes)))

  -- the list of each byte, with this change in its own
  pub put_more : {V : Type 0} (items : V → List ChangeAt) (lists : List V) (own list d : V) (byte : ℕ)
      → get_or x.key depth 0 < length lists → own ≡ get_or lists (get_or x.key depth 0) own
      → items list ≡ items own ++ x ∷ []
      → ((d : V) → items (get_or lists byte d) ≡ filter (goes_to depth byte) (take place changes))
      → items (get_or (set lists (get_or x.key depth 0) list) byte d)
      ≡ filter (goes_to depth byte) (take (place + 1) changes)
  unfolding own_byte there
  put_more items lists own list d byte within is_own pushed before = elim (cases_eq (get_or x.key depth 0) byte) [
    | inl same ↦
        let at : own ≡ get_or lists byte own = rw (← same) is_own in
        let was : items own ≡ filter (goes_to depth byte) (take place changes) = rw at (before own) in
        rw (get_or-set_at lists _ byte list d (sym same) within, pushed, was) (sym (more_at byte same))
    | inr other ↦
        rw (get_or-set_other lists _ byte list d (λ e. other (sym e))) (before d ∙ sym (none_at byte other))
  ]

-- one empty list more
pub one_empty_more : {V : Type 0} (items : V → List ChangeAt) (lists : List V) (list d : V) (n byte : ℕ)
    → length lists ≡ n → items list ≡ []
    → (byte < n → (d : V) → items (get_or lists byte d) ≡ []) → byte < n + 1
    → items (get_or (lists ++ list ∷ []) byte d) ≡ []
one_empty_more items lists list d n byte size none before less = elim (cases_lt byte n) [
  | inl low ↦
      let within : byte < length lists = omega arith in
      rw (get_or_append_left lists _ d byte within) (before low d)
  | inr high ↦ let last : length lists ≡ byte = omega arith in rw (get_or_push lists list d byte last) none
]
